-- What a class is, and how one is read byte by byte from after its `[`.
use Rattle.std.specs.Prelude.{ℕ, Bool, true, false, cond, List, [], ◌∷◌, length, eqb, ltb}

-- an item: the bytes from the first to the last; a single byte is both
pub data Item : Type 0 where
  from_to : (first last : ℕ) → Item

-- a class: its items, the one read last before the others, and whether a `^` takes all bytes but those
pub record Class : Type 0 where
  pub all_but : Bool
  pub items : List Item

-- whether a value lies in an item, both ends included
abbrev pub in_item : Item → ℕ → Bool
in_item (from_to first last) v = cond (ltb v first) false (cond (ltb last v) false true)

-- whether it lies in one of the items
abbrev pub in_items : List Item → ℕ → Bool
in_items [] v = false
in_items (item ∷ items) v = cond (in_item item v) true (in_items items v)

-- whether a class takes a value
abbrev pub class_takes : Class → ℕ → Bool
class_takes class v = cond (in_items class.items v) (cond class.all_but false true) class.all_but

-- the dot: all bytes but 10
abbrev pub the_dot : Class
the_dot = record { all_but = true; items = from_to 10 10 ∷ [] }

-- a class of which nothing was read yet
abbrev pub unread : Class
unread = record { all_but = false; items = [] }

-- a class with one more item
abbrev pub with_item : Class → Item → Class
with_item class item = record { all_but = class.all_but; items = item ∷ class.items }

-- how many items a class has at most
abbrev pub most_items : ℕ
most_items = 16

-- whether there are 1 to 16 items
abbrev pub items_fit : List Item → Bool
items_fit [] = false
items_fit (item ∷ items) = cond (ltb most_items (length (item ∷ items))) false true

-- what a byte is inside a class
pub data ClassSign : Type 0 where
  slash ending caret dash ordinary : ClassSign

-- `\` `]` `^` `-`, and every other byte
abbrev pub class_sign : ℕ → ClassSign
class_sign b =
    cond (eqb b 92) slash
    (cond (eqb b 93) ending
    (cond (eqb b 94) caret
    (cond (eqb b 45) dash ordinary)))

-- whether a byte stands for itself only after a `\`: no other byte may have one
abbrev pub needs_slash : ClassSign → Bool
needs_slash slash = true
needs_slash ending = true
needs_slash caret = true
needs_slash dash = true
needs_slash ordinary = false

-- where the reading of a class stands: right after its `[`; where an item is due; after a byte, which may begin a
-- range; where the last byte of a range is due; and after a `\` in the two places where a byte is due
pub data Inside : Type 0 where
  opened : Inside
  item_due : Inside
  byte_read : (first : ℕ) → Inside
  last_due : (first : ℕ) → Inside
  item_escaped : Inside
  last_escaped : (first : ℕ) → Inside

-- what one byte makes of it: the reading goes on, the class is whole, or it is not of the form
pub data ClassStep : Type 0 where
  goes_on : Class → Inside → ClassStep
  whole : Class → ClassStep
  faulty : ClassStep

-- where an item is due: it begins, or the `]` ends the class
abbrev pub item_due_step : ClassSign → ℕ → Class → ClassStep
item_due_step slash b class = goes_on class item_escaped
item_due_step ending b class = cond (items_fit class.items) (whole class) faulty
item_due_step caret b class = faulty
item_due_step dash b class = faulty
item_due_step ordinary b class = goes_on class (byte_read b)

-- right after the `[` a `^` may stand
abbrev pub opened_step : ClassSign → ℕ → Class → ClassStep
opened_step caret b class = goes_on (record { all_but = true; items = class.items }) item_due
opened_step slash b class = item_due_step slash b class
opened_step ending b class = item_due_step ending b class
opened_step dash b class = item_due_step dash b class
opened_step ordinary b class = item_due_step ordinary b class

-- after a byte, a `-` makes a range of it; else it is an item of its own
abbrev pub byte_step : ClassSign → ℕ → Class → (first : ℕ) → ClassStep
byte_step dash b class first = goes_on class (last_due first)
byte_step slash b class first = item_due_step slash b (with_item class (from_to first first))
byte_step ending b class first = item_due_step ending b (with_item class (from_to first first))
byte_step caret b class first = item_due_step caret b (with_item class (from_to first first))
byte_step ordinary b class first = item_due_step ordinary b (with_item class (from_to first first))

-- a range ends with this byte, which its first byte must not be above
abbrev pub range_step : (last : ℕ) → Class → (first : ℕ) → ClassStep
range_step last class first = cond (ltb last first) faulty (goes_on (with_item class (from_to first last)) item_due)

-- where the last byte of a range is due
abbrev pub last_step : ClassSign → ℕ → Class → (first : ℕ) → ClassStep
last_step slash b class first = goes_on class (last_escaped first)
last_step ending b class first = faulty
last_step caret b class first = faulty
last_step dash b class first = faulty
last_step ordinary b class first = range_step b class first

-- one byte, by where the reading stands
abbrev pub class_step : ℕ → Class → Inside → ClassStep
class_step b class opened = opened_step (class_sign b) b class
class_step b class item_due = item_due_step (class_sign b) b class
class_step b class (byte_read first) = byte_step (class_sign b) b class first
class_step b class (last_due first) = last_step (class_sign b) b class first
class_step b class item_escaped = cond (needs_slash (class_sign b)) (goes_on class (byte_read b)) faulty
class_step b class (last_escaped first) = cond (needs_slash (class_sign b)) (range_step b class first) faulty
