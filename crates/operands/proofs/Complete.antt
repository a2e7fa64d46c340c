-- What the grammar reads, the scanner reads: whatever stands around it, the scan passes over a written tree and goes on
-- after it.
use Rattle.std.specs.Prelude.{ℕ, ◌+◌, ◌<◌, ◌≡◌, refl, List, [], ◌∷◌, length}
use Rattle.std.proofs.Common.{ap, ◌∙◌, arith, lt-ltb}
use Rattle.std.proofs.Math.Option.{none, some}
use Rattle.language.specs.SignedTree.{SignedTree, catenation, union, star, one_or_more as more, optional, counted}
use Rattle.tree.specs.Limits.{most_groups}
use Rattle.operands.specs.Bytes.{Syntax, plus, question, brace, sign_of}
use Rattle.operands.specs.ScanClass.{after_class, scan_class}
use Rattle.classes.specs.ClassComplete.{class_found}
use Rattle.counts.specs.CountGrammar.{SpellsCount}
use Rattle.counts.specs.CountComplete.{count_found}
use Rattle.operands.specs.ScanCount.{after_count, scan_count}
use Rattle.operands.specs.Scanner.{Atom, tree, due, after, Waiting, Before, Group, nothing, next_factor as with-factor, scan}
use Rattle.operands.specs.Grammar.{Level, single, starred, joined, united, BeginsAt, Spells, Written, itself, escaped, any_but_line_end, bracketed, group, no_sign, one_star, one_or_more, none_or_one, so_many, one_factor, next_factor, one_branch, next_branch}
use Rattle.operands.specs.Complete.{Passes}

-- what begins a written tree is an operand: after another tree it is the next factor
begins : {syntax : Syntax} {size depth : ℕ} {level : Level} {bytes rest : List ℕ} {t : SignedTree Atom}
    → Spells syntax size depth level bytes rest t
    → (place : ℕ) (s : SignedTree Atom) (before : Before) (groups : List Group)
    → scan syntax bytes place (after s) before groups
    ≡ scan syntax bytes place due (with-factor before s place) groups
unfolding scan
begins (itself p at) = λ place s before groups. rw p
begins (escaped p at) = λ place s before groups. refl
begins (any_but_line_end p at) = λ place s before groups. rw p
begins (bracketed p at r) = λ place s before groups. rw p
begins (group h r) = λ place s before groups. refl
begins (no_sign r) = begins r
begins (one_star at r) = begins r
begins (one_or_more p at r) = begins r
begins (none_or_one p at r) = begins r
begins (so_many p at r q) = begins r
begins (one_factor r) = begins r
begins (next_factor at r q) = begins r
begins (one_branch r) = begins r
begins (next_branch at r q) = begins r

-- a group passes over its `(`, what it holds, and its `)`
grouped : {syntax : Syntax} {size depth : ℕ} {bytes rest : List ℕ} {t : SignedTree Atom} → depth < most_groups
    → Passes syntax size united (depth + 1) bytes (41 ∷ rest) t
    → Passes syntax size single depth (40 ∷ bytes) rest t
unfolding scan
grouped {syntax} {depth = depth} {rest = rest} h inside place before groups e here =
    let (within, last, made, on) = inside (place + 1) (record { place = place; outside = before } ∷ groups)
    (omega arith) (omega arith) in
    record {
      next = on.next + 1;
      counted = omega (arith, on.counted);
      same = rw (lt-ltb (length groups) most_groups (omega arith))
          (on.same ∙ ap (λ (x : SignedTree Atom). scan syntax rest (on.next + 1) (after x) before groups) made);
    }

-- a star, one byte further
stars : {syntax : Syntax} {size depth sign : ℕ} {bytes rest : List ℕ} {t : SignedTree Atom}
    → BeginsAt size sign (42 ∷ rest) → Passes syntax size starred depth bytes (42 ∷ rest) t
    → Passes syntax size starred depth bytes rest (star sign t)
unfolding scan
stars {sign = sign} at operand place before groups e here =
    let on = operand place before groups e here in
    let there : sign ≡ on.next = omega (arith, on.counted) in
    record { next = on.next + 1; counted = omega (arith, on.counted); same = rw there on.same }

-- so are a `+` and a `?`
pluses : {syntax : Syntax} {size depth b sign : ℕ} {bytes rest : List ℕ} {t : SignedTree Atom}
    → sign_of syntax b ≡ plus → BeginsAt size sign (b ∷ rest) → Passes syntax size starred depth bytes (b ∷ rest) t
    → Passes syntax size starred depth bytes rest (more sign t)
unfolding scan
pluses {sign = sign} p at operand place before groups e here =
    let on = operand place before groups e here in
    let there : sign ≡ on.next = omega (arith, on.counted) in
    record { next = on.next + 1; counted = omega (arith, on.counted); same = rw there (on.same ∙ rw p) }

questions : {syntax : Syntax} {size depth b sign : ℕ} {bytes rest : List ℕ} {t : SignedTree Atom}
    → sign_of syntax b ≡ question → BeginsAt size sign (b ∷ rest)
    → Passes syntax size starred depth bytes (b ∷ rest) t
    → Passes syntax size starred depth bytes rest (optional sign t)
unfolding scan
questions {sign = sign} p at operand place before groups e here =
    let on = operand place before groups e here in
    let there : sign ≡ on.next = omega (arith, on.counted) in
    record { next = on.next + 1; counted = omega (arith, on.counted); same = rw there (on.same ∙ rw p) }

-- a count, from its `{` to its `}`
counts : {syntax : Syntax} {size depth b sign fewest most : ℕ} {bytes between rest : List ℕ} {t : SignedTree Atom}
    → sign_of syntax b ≡ brace → BeginsAt size sign (b ∷ between)
    → Passes syntax size starred depth bytes (b ∷ between) t → SpellsCount between rest fewest most
    → Passes syntax size starred depth bytes rest (counted sign fewest most t)
unfolding scan
counts {syntax} {sign = sign} {between = between} {t = t} p at operand r place before groups e here =
    let on = operand place before groups e here in
    let off = count_found r (on.next + 1) in
    let there : sign ≡ on.next = omega (arith, on.counted) in
    record {
      next = off.next;
      counted = omega (arith, on.counted, off.counted);
      same = rw there (on.same ∙ rw p (scan_count syntax on.next t before groups between (on.next + 1) _
          ∙ ap (after_count syntax on.next t before groups) off.same));
    }

-- the next factor joins the catenation collected so far
factors : {syntax : Syntax} {size depth right : ℕ} {bytes between rest : List ℕ} {s t : SignedTree Atom}
    → BeginsAt size right between → Passes syntax size joined depth bytes between s
    → Spells syntax size depth starred between rest t → Passes syntax size starred depth between rest t
    → Passes syntax size joined depth bytes rest (catenation right s t)
factors {syntax} {right = right} {between = between} {s = s} {t = t} at first r second place unions groups e here =
    let (collected, last, made, on) = first place unions groups e here in
    let there : right ≡ on.next = omega (arith, on.counted) in
    let waiting : Waiting = record { place = on.next; left = s } in
    let off = second on.next (record { unions = unions; factors = some waiting }) groups e
    (omega (arith, on.counted)) in
    let joins = ap (λ (x : SignedTree Atom). scan syntax between on.next due (record {
      unions = unions;
      factors = some (record { place = on.next; left = x });
    }) groups) made in (
      some waiting,
      t,
      rw there refl,
      record {
        next = off.next;
        counted = omega (arith, on.counted, off.counted);
        same = on.same ∙ begins r _ _ _ _
            ∙ joins ∙ off.same;
      },
    )

-- the next branch joins the union collected so far
branches : {syntax : Syntax} {size depth bar : ℕ} {bytes between rest : List ℕ} {s t : SignedTree Atom}
    → BeginsAt size bar (124 ∷ between) → Passes syntax size united depth bytes (124 ∷ between) s
    → Passes syntax size joined depth between rest t
    → Passes syntax size united depth bytes rest (union bar s t)
unfolding scan
branches {syntax} {bar = bar} {between = between} {s = s} {t = t} at first second place groups e here =
    let (collected, last, made, on) = first place groups e here in
    let there : on.next ≡ bar = omega (arith, on.counted) in
    let waiting : Waiting = record { place = on.next; left = s } in
    let (few, end, made-few, off) = second (on.next + 1) (some waiting) groups e (omega (arith, on.counted)) in
    let joins = ap (λ (x : SignedTree Atom). scan syntax between (on.next + 1) due (record {
      unions = some (record { place = on.next; left = x });
      factors = none;
    }) groups) made in (
      record { unions = some waiting; factors = few },
      end,
      ap (union on.next s) made-few ∙ ap (λ (p : ℕ). union p s t) there,
      record {
        next = off.next;
        counted = omega (arith, on.counted, off.counted);
        same = on.same ∙ joins
            ∙ off.same;
      },
    )

-- by induction on the reading
pub passes : {syntax : Syntax} {size depth : ℕ} {level : Level} {bytes rest : List ℕ} {t : SignedTree Atom}
    → Spells syntax size depth level bytes rest t → Passes syntax size level depth bytes rest t
unfolding scan
passes (itself {place = own} p at) =
    λ place before groups e here.
    let there : own ≡ place = omega arith in
    record { next = place + 1; counted = omega arith; same = rw (there, p) }
passes (escaped {place = own} p at) =
    λ place before groups e here.
    let there : own ≡ place = omega arith in
    record { next = place + 1 + 1; counted = omega arith; same = rw (there, p) }
passes (any_but_line_end {place = own} p at) =
    λ place before groups e here.
    let there : own ≡ place = omega arith in
    record { next = place + 1; counted = omega arith; same = rw (there, p) }
passes {syntax} (bracketed {place = own} p at r) =
    λ place before groups e here.
    let on = class_found r (place + 1) in
    let there : own ≡ place = omega arith in
    record {
      next = on.next;
      counted = omega (arith, on.counted);
      same = rw (there, p) (scan_class syntax place before groups _ (place + 1) _ _
          ∙ ap (after_class syntax place before groups) on.same);
    }
passes (group h r) = grouped h (passes r)
passes (no_sign r) = passes r
passes (one_star at r) = stars at (passes r)
passes (one_or_more p at r) = pluses p at (passes r)
passes (none_or_one p at r) = questions p at (passes r)
passes (so_many p at r q) = counts p at (passes r) q
passes (one_factor {t = t} r) =
    λ place unions groups e here.
    (none, t, refl, passes r place (record { unions = unions; factors = none }) groups e here)
passes (next_factor at r q) = factors at (passes r) q (passes q)
passes (one_branch r) = λ place groups e here. let (collected, last, made, on) =
    passes r place none groups e here in (record { unions = none; factors = collected }, last, made, on)
passes (next_branch at r q) = branches at (passes r) (passes q)

-- what is written, the scanner gives
pub scanner_gives : {syntax : Syntax} {bytes : List ℕ} {t : SignedTree Atom} → Written syntax bytes t
    → scan syntax bytes 0 due nothing [] ≡ tree t
unfolding scan
scanner_gives w = let (before, last, made, on) = passes w 0 [] refl (omega arith) in on.same ∙ ap tree made
