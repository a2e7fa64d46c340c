-- The written form of a class, as the prose has it: 1 to 16 items, each a byte or a range, and `^` first for all bytes
-- but those.
use Rattle.std.specs.Prelude.{ℕ, ◌≤◌, ◌≡◌, true, false, List, [], ◌∷◌, length}
use Rattle.classes.specs.Class.{Item, from_to, Class, most_items, class_sign, needs_slash}

-- `SpellsByte bytes rest b`: the bytes begin with a written b, and `rest` follows it. `\` `]` `^` `-` are written with
-- a `\` before them, and no other byte has one
pub data SpellsByte : List ℕ → List ℕ → ℕ → Type 0 where
  bare : {b : ℕ} {rest : List ℕ} → needs_slash (class_sign b) ≡ false → SpellsByte (b ∷ rest) rest b
  slashed : {b : ℕ} {rest : List ℕ} → needs_slash (class_sign b) ≡ true → SpellsByte (92 ∷ b ∷ rest) rest b

-- an item: a byte, or two with a `-` between them, the first not above the last
pub data SpellsItem : List ℕ → List ℕ → Item → Type 0 where
  single : {b : ℕ} {bytes rest : List ℕ} → SpellsByte bytes rest b → SpellsItem bytes rest (from_to b b)
  range : {first last : ℕ} {bytes between rest : List ℕ} → SpellsByte bytes (45 ∷ between) first
      → SpellsByte between rest last → first ≤ last → SpellsItem bytes rest (from_to first last)

-- one item or more, the last one first in the list
pub data SpellsItems : List ℕ → List ℕ → List Item → Type 0 where
  one_item : {item : Item} {bytes rest : List ℕ} → SpellsItem bytes rest item → SpellsItems bytes rest (item ∷ [])
  next_item : {item : Item} {items : List Item} {bytes between rest : List ℕ} → SpellsItems bytes between items
      → SpellsItem between rest item → SpellsItems bytes rest (item ∷ items)

-- a class, from after its `[` up to its `]`
pub data SpellsClass : List ℕ → List ℕ → Class → Type 0 where
  these : {items : List Item} {bytes rest : List ℕ} → SpellsItems bytes (93 ∷ rest) items → length items ≤ most_items
      → SpellsClass bytes rest (record { all_but = false; items = items })
  all_but_these : {items : List Item} {bytes rest : List ℕ} → SpellsItems bytes (93 ∷ rest) items
      → length items ≤ most_items → SpellsClass (94 ∷ bytes) rest (record { all_but = true; items = items })
