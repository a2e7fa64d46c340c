-- The level of a record and how deep it is at most, and the table before anything was told and after a record told
-- its children.
use Rattle.std.specs.Prelude.{ℕ, ◌+◌, ◌≤◌, ◌<◌, ◌≡◌, Bool, true, false, cond, ltb, List, get_or, set, replicate}
use Rattle.std.proofs.Math.Path.{refl}
use Rattle.std.proofs.Common.{ap, ◌∙◌, arith, lt-ltb, le-ltb, ltb-false, eq-eqb, ne_eqb}
use Rattle.tree.specs.Layout.{class_kind, kind_at, left_at, right_at}
use Rattle.tree.specs.Limits.{most_records}
use Rattle.record_line.specs.Depth.{most_level, untold, level, told_children}

module _ (table : List ℕ) (i : ℕ) where
  -- a record that lies deeper than is drawn
  pub level_deep : most_level < get_or table i 0 → most_level ≡ level table i
  unfolding level
  level_deep h = rw (lt-ltb most_level (get_or table i 0) h) refl

  -- another one
  pub level_plain : get_or table i 0 ≤ most_level → get_or table i 0 ≡ level table i
  unfolding level
  level_plain h = rw (le-ltb most_level (get_or table i 0) h) refl

-- no record is drawn deeper than that
pub level_low : (table : List ℕ) (i : ℕ) → level table i ≤ most_level
unfolding level
level_low table i = go (ltb most_level (get_or table i 0)) refl
  where
    go : (deep : Bool) → ltb most_level (get_or table i 0) ≡ deep → cond deep most_level (get_or table i 0) ≤ most_level
    go true e = omega arith
    go false e = ltb-false most_level (get_or table i 0) e

module _ (list table : List ℕ) (i depth : ℕ) where
  -- a class tells nothing
  pub told_class : kind_at list i ≡ class_kind → table ≡ told_children list table i depth
  unfolding told_children
  told_class e = rw (eq-eqb (kind_at list i) class_kind e) refl

  -- another record tells both children
  pub told_other : (kind_at list i ≡ class_kind → ⊥)
      → set (set table (left_at list i) (depth + 1)) (right_at list i) (depth + 1) ≡ told_children list table i depth
  unfolding told_children
  told_other e = rw (ne_eqb (kind_at list i) class_kind e) refl

  -- the same, from the record's fields
  pub told_fields : (left right : ℕ) → left ≡ left_at list i → right ≡ right_at list i
      → (kind_at list i ≡ class_kind → ⊥)
      → set (set table left (depth + 1)) right (depth + 1) ≡ told_children list table i depth
  told_fields left right e f other =
      ap (λ (n : ℕ). set (set table n (depth + 1)) right (depth + 1)) e
      ∙ ap (λ (n : ℕ). set (set table (left_at list i) (depth + 1)) n (depth + 1)) f ∙ told_other other

-- the table before anything was told
pub untold_is : replicate most_records 0 ≡ untold
unfolding untold
untold_is = refl
