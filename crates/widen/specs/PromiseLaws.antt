-- What follows from the promise: the new list has the old one's tree and the place 0 in every record, and the answer is
-- the only one.
use Rattle.std.specs.Prelude.{ℕ, ◌*◌, ◌<◌, ◌≡◌, refl, List, Result, Ok, Err, ◌++◌, take, drop}
use Rattle.std.proofs.Common.{sym, ap, ◌∙◌, arith, take_at}
use Rattle.language.specs.Tree.{Tree, nodes}
use Rattle.tree.specs.Leaf.{Leaf}
use Rattle.tree.specs.Layout.{record_size, place_at}
use Rattle.tree.specs.Records.{Good}
use Rattle.tree.specs.declared.refusal.Refusal.{Refusal}
use Rattle.widen.specs.OldLayout.{widened, GoodOld}
use Rattle.widen.specs.OldLayoutLaws.{length_widened, old_nodes, old_unique, wide_places}
use Rattle.widen.specs.Promise.{WideWritten, RefusesToWiden, not_good, too_long, Widens}

-- the part that was written is the wide list
pub written_part : {old before after : List ℕ} {records : ℕ} → WideWritten old before after records
    → take (record_size * records) after ≡ widened old
written_part {old} {before} {after} {records} w =
    ap (take (record_size * records)) w.stored
    ∙ take_at (widened old) (drop (record_size * records) before) (record_size * records)
    (omega (arith, length_widened old, old_nodes old w.tree w.good, w.records_are))

-- it is good, with every tree that the old list has, and has a record for each old one
pub same_tree : {old before after : List ℕ} {records : ℕ} → WideWritten old before after records → (t : Tree Leaf)
    → GoodOld old t → Good (take (record_size * records) after) t
same_tree w t good = rw (written_part w) good.wide

-- with the place 0 in every record
pub places_zero : {old before after : List ℕ} {records : ℕ} → WideWritten old before after records → (r : ℕ)
    → r < records → place_at (take (record_size * records) after) r ≡ 0
places_zero {old} w r inside =
    rw (written_part w) (wide_places old r (omega (arith, old_nodes old w.tree w.good, w.records_are)))

-- two answers that fit are the same, and so are the buffers
pub record SameWidened (a b : Result ℕ Refusal) (after later : List ℕ) : Type 0 where
  pub answers : a ≡ b
  pub buffers : after ≡ later

-- an old list has as many nodes by each of its trees
same_nodes : {old : List ℕ} (t u : Tree Leaf) → GoodOld old t → GoodOld old u → nodes t ≡ nodes u
same_nodes {old} t u good other = ap nodes (old_unique old t u good other)

-- what is written is not refused
never_both : {old before after later : List ℕ} {records : ℕ} {refusal : Refusal} → WideWritten old before after records
    → RefusesToWiden old before later refusal → ⊥
never_both p (not_good q) = q.no_tree p.tree p.good
never_both p (too_long q) =
    omega (arith, p.room, p.records_are, q.short, same_nodes p.tree q.tree p.good q.good)

-- two refusals are the same
same_refusals : {old before after later : List ℕ} {a b : Refusal} → RefusesToWiden old before after a
    → RefusesToWiden old before later b → SameWidened (Err a) (Err b) after later
same_refusals (not_good p) (not_good q) = record { answers = refl; buffers = p.kept ∙ sym q.kept }
same_refusals (not_good p) (too_long q) = absurd (p.no_tree q.tree q.good)
same_refusals (too_long p) (not_good q) = absurd (q.no_tree p.tree p.good)
same_refusals (too_long p) (too_long q) = record { answers = refl; buffers = p.kept ∙ sym q.kept }

pub widened_unique : (old before after later : List ℕ) (a b : Result ℕ Refusal) → Widens old before after a
    → Widens old before later b → SameWidened a b after later
widened_unique old before after later (Ok m) (Ok n) p q =
    let same : m ≡ n = p.fits.records_are ∙ same_nodes p.fits.tree q.fits.tree p.fits.good q.fits.good
    ∙ sym q.fits.records_are in
    record {
      answers = ap Ok same;
      buffers = p.fits.stored ∙ ap (λ (k : ℕ). widened old ++ drop (record_size * k) before) same
          ∙ sym q.fits.stored;
    }
widened_unique old before after later (Ok m) (Err b) p q = absurd (never_both p.fits q.fits)
widened_unique old before after later (Err a) (Ok n) p q = absurd (never_both q.fits p.fits)
widened_unique old before after later (Err a) (Err b) p q = same_refusals p.fits q.fits
