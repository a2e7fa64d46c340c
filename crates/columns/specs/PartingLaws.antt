-- Parting the groups by one leaf more, byte by byte, and by all leaves, entry by entry.
use Rattle.std.specs.Prelude.{ℕ, zero, suc, ◌+◌, ◌*◌, ◌≤◌, ◌<◌, ◌≡◌, refl, Bool, true, false, List, length, get_or, set, replicate}
use Rattle.std.proofs.Common.{sym, ap, ◌∙◌, subst, inl, inr, ⊎_elim, arith, length-set, get_or-set_same, get_or-set_other}
use Rattle.std.proofs.Math.Decide.{ℕ_discrete, dec_lt}
use Rattle.std.proofs.lemmas.List.{get_or-replicate}
use Rattle.closing.specs.BitsOfWords.Bits.{Tells}
use Rattle.machines.specs.Columns.{byte_count}
use Rattle.moving.specs.Codes.{CodeTakes}
use Rattle.columns.specs.Alike.{Alike, LeafEntry, entry_number, AlikeBefore}
use Rattle.columns.specs.AlikeInTrees.{alike_back}
use Rattle.columns.specs.Parting.{
  Least,
  LeastAlike,
  Parted,
  place_count,
  none,
  BytePlace,
  taken,
  left,
  Came,
  Comes,
  new,
  again,
  Parting,
  Known,
  PartedSoFar,
  NotedToo,
  LookedAt,
  passed,
  parted,
}

-- alike with itself, and by way of another
alike_self : (classes : List ℕ) (n b : ℕ) → Alike classes n b b
alike_self classes n b = record { taken = (λ h. h, λ h. h) }

alike_over : {classes : List ℕ} {n b c d : ℕ} → Alike classes n b c → Alike classes n c d → Alike classes n b d
alike_over u v = record { taken = (λ h. v.taken.0 (u.taken.0 h), λ h. u.taken.1 (v.taken.1 h)) }

module _ {classes : List ℕ} {n : ℕ} {before : List ℕ} where
  -- bytes of one place are of one group, and the leaf takes them alike
  same_group : {c d p : ℕ} → BytePlace classes n before c p → BytePlace classes n before d p
      → get_or before c 0 ≡ get_or before d 0
  same_group (taken u e) (taken v f) = omega arith
  same_group (taken u e) (left v f) = absurd (omega arith)
  same_group (left u e) (taken v f) = absurd (omega arith)
  same_group (left u e) (left v f) = omega arith

  placed_alike : {c d p : ℕ} → BytePlace classes n before c p → BytePlace classes n before d p → Alike classes n c d
  placed_alike (taken u e) (taken v f) = record { taken = (λ _. v, λ _. u) }
  placed_alike (taken u e) (left v f) = absurd (omega arith)
  placed_alike (left u e) (taken v f) = absurd (omega arith)
  placed_alike (left u e) (left v f) = record { taken = (λ h. absurd (u h), λ h. absurd (v h)) }

  -- and such bytes have one place
  alike_placed : {c d p : ℕ} → BytePlace classes n before c p → get_or before d 0 ≡ get_or before c 0 → Alike classes n d c
      → BytePlace classes n before d p
  alike_placed (taken u e) group alike = taken (alike.taken.1 u) (omega arith)
  alike_placed (left u e) group alike = left (λ h. u (alike.taken.0 h)) (omega arith)

  -- a byte has one place
  one_place : {c p q : ℕ} → BytePlace classes n before c p → BytePlace classes n before c q → p ≡ q
  one_place (taken u e) (taken v f) = omega arith
  one_place (taken u e) (left v f) = absurd (v u)
  one_place (left u e) (taken v f) = absurd (u v)
  one_place (left u e) (left v f) = omega arith

-- the place of a byte, by a test
pub place_by : {classes : List ℕ} {n : ℕ} {before : List ℕ} {c first p : ℕ} {takes : Bool}
    → Tells (CodeTakes classes n c) takes → first ≡ get_or before c 0
    → (takes ≡ true → p ≡ 2 * first + 1) → (takes ≡ false → p ≡ 2 * first) → BytePlace classes n before c p
place_by {takes = true} told same yes' no' = taken (told.holds refl) (omega (arith, yes' refl))
place_by {takes = false} told same yes' no' = left (told.fails refl) (omega (arith, no' refl))

-- at first no byte has come
pub parting_none : (classes : List ℕ) (n : ℕ) (before firsts : List ℕ) → length before ≡ byte_count
    → length firsts ≡ place_count → ((p : ℕ) → p < place_count → get_or firsts p 0 ≡ none)
    → Parting classes n before before firsts 0
parting_none classes n before firsts long places empty = record {
  at_most = omega arith;
  long = long;
  places = places;
  rest = λ c h. refl;
  done = λ c h. absurd (omega arith);
  fresh = λ p e c h. absurd (omega arith);
  held = λ p h some. absurd (some (empty p h));
}

module _ {classes : List ℕ} {n : ℕ} {before least firsts : List ℕ} {b p : ℕ}
    (so_far : Parting classes n before least firsts b) (inside : b < byte_count) (within : p < place_count)
    (place : BytePlace classes n before b p) where
  -- those before b are as they were, and so are those behind it
  still_rest : (r c : ℕ) → b + 1 ≤ c → get_or (set least b r) c 0 ≡ get_or before c 0
  still_rest r c h = get_or-set_other least b c r 0 (omega arith) ∙ so_far.rest c (omega arith)

  still_done : (r : ℕ) → LeastAlike classes n before b r → (c : ℕ) → c < b + 1
      → LeastAlike classes n before c (get_or (set least b r) c 0)
  still_done r own c h = elim (ℕ_discrete c b) [
    | yes e ↦ subst (λ (m : ℕ). LeastAlike classes n before m (get_or (set least b r) m 0)) (sym e)
        (subst (λ (v : ℕ). LeastAlike classes n before b v)
        (sym (get_or-set_same least b r 0 (omega (arith, so_far.long)))) own)
    | no other ↦ subst (λ (v : ℕ). LeastAlike classes n before c v) (sym (get_or-set_other least b c r 0 other))
        (so_far.done c (omega arith))
  ]

  -- what came to a place before b came there before b + 1
  still_came : {q s : ℕ} → Came classes n before b q s → Came classes n before (b + 1) q s
  still_came came = record {
    before_it = omega (arith, came.before_it);
    placed = came.placed;
    first = came.first;
  }

  -- where no byte came before, b is the first
  new_first : get_or firsts p 0 ≡ none → (c : ℕ) → BytePlace classes n before c p → b ≤ c
  new_first free c there = elim (dec_lt c b) [
    | yes h ↦ absurd (so_far.fresh p free c h there)
    | no h ↦ omega arith
  ]

  parting_new : get_or firsts p 0 ≡ none → Parting classes n before (set least b b) (set firsts p b) (b + 1)
  parting_new free = record {
    at_most = omega arith;
    long = simp length-set so_far.long;
    places = simp length-set so_far.places;
    rest = still_rest b;
    done = still_done b record {
      within = omega arith;
      group = refl;
      alike = alike_self classes n b;
      first = λ d group alike. new_first free d (alike_placed place group alike);
    };
    fresh = λ q e c h there. elim (ℕ_discrete q p) [
      | yes same ↦ omega (
        arith,
        e,
        ap (λ (m : ℕ). get_or (set firsts p b) m 0) same,
        get_or-set_same firsts p b 0 (omega (arith, so_far.places)),
      )
      | no other ↦ elim (ℕ_discrete c b) [
        | yes at ↦ other (one_place (subst (λ (m : ℕ). BytePlace classes n before m q) at there) place)
        | no less ↦ so_far.fresh q (sym (get_or-set_other firsts p q b 0 other) ∙ e) c (omega arith) there
      ]
    ];
    held = λ q h some. elim (ℕ_discrete q p) [
      | yes same ↦ subst (λ (m : ℕ). Came classes n before (b + 1) m (get_or (set firsts p b) m 0)) (sym same)
          (subst (λ (v : ℕ). Came classes n before (b + 1) p v)
          (sym (get_or-set_same firsts p b 0 (omega (arith, so_far.places))))
          record { before_it = omega arith; placed = place; first = new_first free })
      | no other ↦ let kept = get_or-set_other firsts p q b 0 other in
          subst (λ (v : ℕ). Came classes n before (b + 1) q v) (sym kept)
          (still_came (so_far.held q h (λ e. some (kept ∙ e))))
    ];
  }

  parting_again : (get_or firsts p 0 ≡ none → ⊥) → Parting classes n before (set least b (get_or firsts p 0)) firsts (b + 1)
  parting_again some = let came = so_far.held p within some in record {
    at_most = omega arith;
    long = simp length-set so_far.long;
    places = so_far.places;
    rest = still_rest (get_or firsts p 0);
    done = still_done (get_or firsts p 0) record {
      within = omega (arith, came.before_it);
      group = same_group came.placed place;
      alike = placed_alike came.placed place;
      first = λ d group alike. came.first d (alike_placed place group alike);
    };
    fresh = λ q e c h there. elim (ℕ_discrete c b) [
      | yes at ↦ some (subst (λ (m : ℕ). get_or firsts m 0 ≡ none)
          (one_place (subst (λ (m : ℕ). BytePlace classes n before m q) at there) place) e)
      | no less ↦ so_far.fresh q e c (omega arith) there
    ];
    held = λ q h free. still_came (so_far.held q h free);
  }

  -- one byte more comes to its place
  pub parting_next : {r : ℕ} {after : List ℕ} → Comes firsts after p b r
      → Parting classes n before (set least b r) after (b + 1)
  parting_next {r} (new free sets is) =
      subst (λ (l : List ℕ). Parting classes n before (set least b r) l (b + 1)) (sym sets)
      (subst (λ (v : ℕ). Parting classes n before (set least b v) (set firsts p b) (b + 1)) (sym is) (parting_new free))
  parting_next {r} (again some keeps is) =
      subst (λ (l : List ℕ). Parting classes n before (set least b r) l (b + 1)) (sym keeps)
      (subst (λ (v : ℕ). Parting classes n before (set least b v) firsts (b + 1)) (sym is) (parting_again some))

-- what stands at a place is a byte, where one has come there
pub held_byte : {classes : List ℕ} {n : ℕ} {before least firsts : List ℕ} {b : ℕ}
    → Parting classes n before least firsts b → (p : ℕ) → p < place_count → get_or firsts p 0 ≤ none
held_byte {firsts = firsts} so_far p h = elim (ℕ_discrete (get_or firsts p 0) none) [
  | yes e ↦ omega arith
  | no some ↦ omega (arith, (so_far.held p h some).before_it, so_far.at_most)
]

-- when all bytes have come, the groups are parted
pub parting_all : {classes : List ℕ} {n : ℕ} {before least firsts : List ℕ} {b : ℕ}
    → Parting classes n before least firsts b → byte_count ≤ b → Parted classes n before least
parting_all so_far all = record { long = so_far.long; each = λ c h. so_far.done c (omega arith) }

module _ {rows classes : List ℕ} where
  -- the leaves before an entry take a byte as it is, two both ways, and three by way of one
  before_back : {p b c : ℕ} → AlikeBefore rows classes p b c → AlikeBefore rows classes p c b
  before_back u = record { each = λ q h starts. alike_back (u.each q h starts) }

  before_over : {p b c d : ℕ} → AlikeBefore rows classes p b c → AlikeBefore rows classes p c d
      → AlikeBefore rows classes p b d
  before_over u v = record { each = λ q h starts. alike_over (u.each q h starts) (v.each q h starts) }

  -- one entry more, and one less
  before_more : {p b c : ℕ} → AlikeBefore rows classes p b c
      → (LeafEntry rows p → Alike classes (entry_number rows p) b c) → AlikeBefore rows classes (p + 1) b c
  before_more {p} {b} {c} u own = record {
    each = λ q h starts. elim (ℕ_discrete q p) [
      | yes e ↦ subst (λ (m : ℕ). Alike classes (entry_number rows m) b c) (sym e)
          (own (subst (λ (m : ℕ). LeafEntry rows m) e starts))
      | no other ↦ u.each q (omega arith) starts
    ];
  }

  before_less : {p b c : ℕ} → AlikeBefore rows classes (p + 1) b c → AlikeBefore rows classes p b c
  before_less u = record { each = λ q h starts. u.each q (omega arith) starts }

  -- at first all bytes are in the group of 0
  pub least_none : Least rows classes 0 (replicate byte_count 0)
  least_none = record {
    within = λ b h. omega (arith, get_or-replicate {A = ℕ} byte_count b 0 0 h);
    alike = λ b h. record { each = λ q l. absurd (omega arith) };
    first = λ b c h u. omega (arith, get_or-replicate {A = ℕ} byte_count b 0 0 h);
  }

  module _ {p : ℕ} {least : List ℕ} (so_far : Least rows classes p least) where
    -- an entry that tells no bytes apart that were not before
    least_same : ((b c : ℕ) → AlikeBefore rows classes p b c → LeafEntry rows p
        → Alike classes (entry_number rows p) b c) → Least rows classes (p + 1) least
    least_same more = record {
      within = so_far.within;
      alike = λ b h. let u = so_far.alike b h in before_more u (more (get_or least b 0) b u);
      first = λ b c h u. so_far.first b c h (before_less u);
    }

    -- an entry where no leaf starts
    pub least_past : (LeafEntry rows p → ⊥) → Least rows classes (p + 1) least
    least_past no_leaf = least_same (λ b c u starts. absurd (no_leaf starts))

    -- a leaf whose number was looked at before
    least_known : {known : List ℕ} → Known rows p known → get_or known (entry_number rows p) 0 ≡ 1
        → Least rows classes (p + 1) least
    least_known knows noted = let (q, h, starts, same) = knows.each (entry_number rows p) noted in
        least_same (λ b c u _. subst (λ (m : ℕ). Alike classes m b c) same (u.each q h starts))

    -- bytes taken alike are of one group
    pub one_group : (b c : ℕ) → b < byte_count → c < byte_count → AlikeBefore rows classes p c b
        → get_or least c 0 ≡ get_or least b 0
    one_group b c h l u = omega (
      arith,
      so_far.first c (get_or least b 0) l (before_over (so_far.alike b h) (before_back u)),
      so_far.first b (get_or least c 0) h (before_over (so_far.alike c l) u),
    )

    -- a leaf by which the groups are parted
    least_parted : {after : List ℕ} → LeafEntry rows p → Parted classes (entry_number rows p) least after
        → Least rows classes (p + 1) after
    least_parted {after} starts parts = record {
      within = λ b h. (parts.each b h).within;
      alike = λ b h.
          let own = parts.each b h in
          let r = get_or after b 0 in
          let far : AlikeBefore rows classes p (get_or least b 0) r =
          subst (λ (m : ℕ). AlikeBefore rows classes p m r) own.group
          (so_far.alike r (omega (arith, own.within))) in
          before_more (before_over (before_back far) (so_far.alike b h)) (λ _. own.alike);
      first = λ b c h u. elim (dec_lt c byte_count) [
        | yes l ↦ (parts.each b h).first c (one_group b c h l (before_less u)) (u.each p (omega arith) starts)
        | no l ↦ omega (arith, (parts.each b h).within)
      ];
    }

    -- a leaf that was looked at
    pub least_next : {known after : List ℕ} → Known rows p known → LeafEntry rows p
        → LookedAt classes (entry_number rows p) known least after → Least rows classes (p + 1) after
    least_next knows starts (passed noted same) =
        subst (λ (l : List ℕ). Least rows classes (p + 1) l) (sym same) (least_known knows noted)
    least_next knows starts (parted parts) = least_parted starts parts

-- there is an entry for each byte still
pub looked_long : {classes : List ℕ} {n : ℕ} {known before after : List ℕ} → LookedAt classes n known before after
    → length before ≡ byte_count → length after ≡ byte_count
looked_long (passed noted same) long = ap length same ∙ long
looked_long (parted parts) long = parts.long

-- a number that is noted, or is not
pub noted_set : (n : ℕ) (known : List ℕ) → NotedToo n known (set known n 1)
noted_set n known = record {
  each = λ m e. elim (ℕ_discrete m n) [
    | yes same ↦ inr same
    | no other ↦ inl (sym (get_or-set_other known n m 1 0 other) ∙ e)
  ];
}

pub noted_same : (n : ℕ) (known : List ℕ) → NotedToo n known known
noted_same n known = record { each = λ m e. inl e }

-- in a list of zeros there is nothing else
zeros : (k n : ℕ) → ◌≡◌ {A = ℕ} (get_or (replicate k 0) n 0) 0
zeros zero n = refl
zeros (suc k) zero = refl
zeros (suc k) (suc n) = zeros k n

-- at first no number is noted
pub known_none : (rows : List ℕ) (k : ℕ) → Known rows 0 (replicate k 0)
known_none rows k = record { each = λ n e. absurd (omega (arith, zeros k n)) }

module _ {rows known : List ℕ} {p : ℕ} (so_far : Known rows p known) where
  -- one entry more
  pub known_past : Known rows (p + 1) known
  known_past = record {
    each = λ n e. let (q, h, starts, same) = so_far.each n e in (q, omega arith, starts, same);
  }

  -- whose number may be noted
  pub known_next : {after : List ℕ} → LeafEntry rows p → NotedToo (entry_number rows p) known after
      → Known rows (p + 1) after
  known_next starts noted = record {
    each = λ n e. ⊎_elim (known_past.each n) (λ same. (p, omega arith, starts, sym same)) (noted.each n e);
  }

-- at first no entry is gone through
pub looking_none : (rows classes : List ℕ) (k : ℕ)
    → PartedSoFar rows classes 0 (replicate k 0) (replicate byte_count 0)
looking_none rows classes k = record { long = refl; parts = least_none; knows = known_none rows k }

-- told with other forms of what was noted
pub looking_as : {rows classes known known' least least' : List ℕ} {p : ℕ} → known' ≡ known → least' ≡ least
    → PartedSoFar rows classes p known least → PartedSoFar rows classes p known' least'
looking_as {rows} {classes} {known} {known'} {least} {least'} {p} e f so_far =
    subst (λ (l : List ℕ). PartedSoFar rows classes p l least') (sym e)
    (subst (λ (l : List ℕ). PartedSoFar rows classes p known l) (sym f) so_far)

module _ {rows classes known least : List ℕ} {p : ℕ} (so_far : PartedSoFar rows classes p known least) where
  -- an entry where no leaf starts
  pub looking_past : (LeafEntry rows p → ⊥) → PartedSoFar rows classes (p + 1) known least
  looking_past no_leaf =
      record { long = so_far.long; parts = least_past so_far.parts no_leaf; knows = known_past so_far.knows }

  -- one where the leaf that starts there is looked at
  pub looking_next : {known' least' : List ℕ} {n : ℕ} → LeafEntry rows p → n ≡ entry_number rows p
      → NotedToo n known known' → LookedAt classes n known least least'
      → PartedSoFar rows classes (p + 1) known' least'
  looking_next {known'} {least'} starts is noted looked =
      let looked-here = subst (λ (m : ℕ). LookedAt classes m known least least') is looked in
      record {
        long = looked_long looked-here so_far.long;
        parts = least_next so_far.parts so_far.knows starts looked-here;
        knows = known_next so_far.knows starts (subst (λ (m : ℕ). NotedToo m known known') is noted);
      }

-- told with another form of the last entry
pub looking_all : {rows classes known least : List ℕ} {p end : ℕ} → PartedSoFar rows classes p known least
    → p ≡ end → Least rows classes end least
looking_all {rows} {classes} {least = least} so_far e =
    subst (λ (m : ℕ). Least rows classes m least) e so_far.parts
