-- Numbering the groups, byte by byte; the groups of bytes that no leaf tells apart, numbered, are the columns.
use Rattle.std.specs.Prelude.{ℕ, ◌+◌, ◌*◌, ◌≤◌, ◌<◌, ◌≡◌, List, length, get_or, set, take}
use Rattle.std.proofs.Common.{sym, ap, ◌∙◌, subst, arith, length-set, get_or-set_same, get_or-set_other, get_or-take, length-take-le}
use Rattle.std.proofs.Math.Decide.{ℕ_discrete}
use Rattle.language.specs.Tree.{Tree}
use Rattle.language.specs.TakenAsOne.{NotToldApart}
use Rattle.tree.specs.Leaf.{Leaf, meaning}
use Rattle.tree.specs.Limits.{most_states}
use Rattle.tables.specs.Tables.{Prepared}
use Rattle.machines.specs.Columns.{byte_count, Columned}
use Rattle.columns.specs.AlikeInTable.{alike_told, told_alike}
use Rattle.columns.specs.Parting.{Least}
use Rattle.columns.specs.PartingLaws.{one_group}
use Rattle.columns.specs.ColumnNumbering.{Grouped, ColumnsNumbered}

-- the least bytes of groups are their own
pub least_grouped : {rows classes : List ℕ} {p : ℕ} {least : List ℕ} → Least rows classes p least
    → Grouped least
least_grouped {least = least} so_far = record {
  within = so_far.within;
  own = λ b h. one_group so_far b (get_or least b 0) h (omega (arith, so_far.within b h)) (so_far.alike b h);
}

-- at first none is numbered
pub numbered_none : (least firsts columns : List ℕ) → length firsts ≡ byte_count → length columns ≡ byte_count
    → ColumnsNumbered least 0 firsts columns 0
numbered_none least firsts columns firsts_long columns_long = record {
  at_most = omega arith;
  few = omega arith;
  firsts_long = firsts_long;
  columns_long = columns_long;
  within = λ c h. absurd (omega arith);
  named = λ c h. absurd (omega arith);
  bytes = λ i h. absurd (omega arith);
  own = λ i h. absurd (omega arith);
  ordered = λ i j l h. absurd (omega arith);
}

module _ {least firsts columns : List ℕ} {b count : ℕ} (so_far : ColumnsNumbered least b firsts columns count)
    (inside : b < byte_count) where
  -- the byte's own entry, set, and the others
  here : (v : ℕ) → get_or (set columns b v) b 0 ≡ v
  here v = get_or-set_same columns b v 0 (omega (arith, so_far.columns_long))

  there : (v c : ℕ) → c < b → get_or (set columns b v) c 0 ≡ get_or columns c 0
  there v c h = get_or-set_other columns b c v 0 (omega arith)

  last : (v : ℕ) → get_or (set firsts count v) count 0 ≡ v
  last v = get_or-set_same firsts count v 0 (omega (arith, so_far.firsts_long, so_far.few))

  earlier : (v i : ℕ) → i < count → get_or (set firsts count v) i 0 ≡ get_or firsts i 0
  earlier v i h = get_or-set_other firsts count i v 0 (omega arith)

  -- a byte with which a group begins
  pub numbered_new : get_or least b 0 ≡ b → ColumnsNumbered least (b + 1) (set firsts count b) (set columns b count)
      (count + 1)
  numbered_new begins = record {
    at_most = omega arith;
    few = omega (arith, so_far.few);
    firsts_long = simp length-set so_far.firsts_long;
    columns_long = simp length-set so_far.columns_long;
    within = λ c h. elim (ℕ_discrete c b) [
      | yes e ↦ subst (λ (m : ℕ). get_or (set columns b count) m 0 < count + 1) (sym e) (omega (arith, here count))
      | no other ↦ let l : c < b = omega arith in omega (arith, there count c l, so_far.within c l)
    ];
    named = λ c h. elim (ℕ_discrete c b) [
      | yes e ↦ subst
          (λ (m : ℕ). get_or (set firsts count b) (get_or (set columns b count) m 0) 0 ≡ get_or least m 0) (sym e)
          (ap (λ (m : ℕ). get_or (set firsts count b) m 0) (here count) ∙ last b ∙ sym begins)
      | no other ↦ let l : c < b = omega arith in
          ap (λ (m : ℕ). get_or (set firsts count b) m 0) (there count c l)
          ∙ earlier b (get_or columns c 0) (so_far.within c l) ∙ so_far.named c l
    ];
    bytes = λ i h. elim (ℕ_discrete i count) [
      | yes e ↦ subst (λ (m : ℕ). get_or (set firsts count b) m 0 < b + 1) (sym e) (omega (arith, last b))
      | no other ↦ let l : i < count = omega arith in omega (arith, earlier b i l, so_far.bytes i l)
    ];
    own = λ i h. elim (ℕ_discrete i count) [
      | yes e ↦ subst (λ (m : ℕ). get_or (set columns b count) (get_or (set firsts count b) m 0) 0 ≡ m) (sym e)
          (ap (λ (m : ℕ). get_or (set columns b count) m 0) (last b) ∙ here count)
      | no other ↦ let l : i < count = omega arith in
          ap (λ (m : ℕ). get_or (set columns b count) m 0) (earlier b i l)
          ∙ there count (get_or firsts i 0) (so_far.bytes i l) ∙ so_far.own i l
    ];
    ordered = λ i j l h. elim (ℕ_discrete j count) [
      | yes e ↦ subst (λ (m : ℕ). get_or (set firsts count b) i 0 < get_or (set firsts count b) m 0) (sym e)
          (omega (arith, last b, earlier b i (omega arith), so_far.bytes i (omega arith)))
      | no other ↦ omega (
        arith,
        earlier b i (omega arith),
        earlier b j (omega arith),
        so_far.ordered i j l (omega arith),
      )
    ];
  }

  -- a byte of a group that is numbered
  pub numbered_same : Grouped least → (get_or least b 0 ≡ b → ⊥)
      → ColumnsNumbered least (b + 1) firsts (set columns b (get_or columns (get_or least b 0) 0)) count
  numbered_same grouped other =
      let r = get_or least b 0 in
      let less : r < b = omega (arith, grouped.within b inside, other) in
      let v = get_or columns r 0 in
      record {
        at_most = omega arith;
        few = omega (arith, so_far.few);
        firsts_long = so_far.firsts_long;
        columns_long = simp length-set so_far.columns_long;
        within = λ c h. elim (ℕ_discrete c b) [
          | yes e ↦ subst (λ (m : ℕ). get_or (set columns b v) m 0 < count) (sym e)
              (omega (arith, here v, so_far.within r less))
          | no past ↦ let l : c < b = omega arith in omega (arith, there v c l, so_far.within c l)
        ];
        named = λ c h. elim (ℕ_discrete c b) [
          | yes e ↦ subst (λ (m : ℕ). get_or firsts (get_or (set columns b v) m 0) 0 ≡ get_or least m 0) (sym e)
              (ap (λ (m : ℕ). get_or firsts m 0) (here v) ∙ so_far.named r less ∙ grouped.own b inside)
          | no past ↦ let l : c < b = omega arith in
              ap (λ (m : ℕ). get_or firsts m 0) (there v c l) ∙ so_far.named c l
        ];
        bytes = λ i h. omega (arith, so_far.bytes i h);
        own = λ i h. there v (get_or firsts i 0) (so_far.bytes i h) ∙ so_far.own i h;
        ordered = so_far.ordered;
      }

-- told with other forms of what was noted
pub numbered_as : {least firsts firsts' columns columns' : List ℕ} {b count count' : ℕ} → firsts' ≡ firsts
    → columns' ≡ columns → count' ≡ count → ColumnsNumbered least b firsts columns count
    → ColumnsNumbered least b firsts' columns' count'
numbered_as {least} {firsts} {firsts'} {columns} {columns'} {b} {count} {count'} e f g so_far =
    subst (λ (l : List ℕ). ColumnsNumbered least b l columns' count') (sym e)
    (subst (λ (l : List ℕ). ColumnsNumbered least b firsts l count') (sym f)
    (subst (λ (m : ℕ). ColumnsNumbered least b firsts columns m) (sym g) so_far))

-- told with another form of the byte's number
pub numbered_all : {least firsts columns : List ℕ} {b count : ℕ} → ColumnsNumbered least b firsts columns count
    → byte_count ≤ b → ColumnsNumbered least byte_count firsts columns count
numbered_all {least} {firsts} {columns} {b} {count} so_far all =
    subst (λ (m : ℕ). ColumnsNumbered least m firsts columns count) (omega (arith, so_far.at_most)) so_far

-- there is a group, as there is a byte
pub some_group : {least firsts columns : List ℕ} {count : ℕ} → ColumnsNumbered least byte_count firsts columns count
    → 1 ≤ count
some_group all = omega (arith, all.within 0 (omega arith))

-- the columns of the tree whose rows these are
pub columned : {rows classes least firsts columns : List ℕ} {count groups : ℕ} {t : Tree Leaf}
    → Prepared t rows count → Least rows classes (most_states * count) least
    → ColumnsNumbered least byte_count firsts columns groups → Columned classes t (take groups firsts) columns
columned {classes = classes} {least} {firsts} {columns} {groups = groups} {t = t} prepared parted all = record {
  all = all.columns_long;
  within = λ b h. omega (arith, length-take-le groups firsts enough, all.within b h);
  alike = λ b h. subst (λ (m : ℕ). NotToldApart (meaning classes) t m b) (sym (first_of b h))
      (alike_told prepared classes (get_or least b 0) b (parted.alike b h));
  least = λ b c h same. subst (λ (m : ℕ). m ≤ c) (sym (first_of b h))
      (parted.first b c h (told_alike prepared classes c b same));
  bytes = λ i h. subst (λ (m : ℕ). m < byte_count) (sym (front i (inside i h))) (all.bytes i (inside i h));
  own = λ i h. ap (λ (m : ℕ). get_or columns m 0) (front i (inside i h)) ∙ all.own i (inside i h);
  ordered = λ i j l h. omega (
    arith,
    front i (omega (arith, inside j h)),
    front j (inside j h),
    all.ordered i j l (inside j h),
  );
}
  where
    enough : groups ≤ length firsts
    enough = omega (arith, all.few, all.firsts_long)

    inside : (i : ℕ) → i < length (take groups firsts) → i < groups
    inside i h = omega (arith, length-take-le groups firsts enough)

    front : (i : ℕ) → i < groups → get_or (take groups firsts) i 0 ≡ get_or firsts i 0
    front i h = get_or-take groups firsts i 0 h

    first_of : (b : ℕ) → b < byte_count → get_or (take groups firsts) (get_or columns b 0) 0 ≡ get_or least b 0
    first_of b h = front (get_or columns b 0) (all.within b h) ∙ all.named b h
