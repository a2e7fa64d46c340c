-- What the grammar of a class reads, the reading of a class finds.
use Rattle.std.specs.Prelude.{ℕ, ◌+◌, ◌≤◌, ◌≡◌, refl, Bool, true, false, List, [], ◌∷◌, length}
use Rattle.std.proofs.Common.{◌∙◌, arith, le-ltb}
use Rattle.classes.specs.Class.{
  Item,
  from_to,
  Class,
  unread,
  with_item,
  most_items,
  items_fit,
  ClassSign,
  slash,
  ending,
  caret,
  dash,
  ordinary,
  class_sign,
  needs_slash,
  Inside,
  opened,
  item_due,
  byte_read,
  last_due,
  item_due_step,
  opened_step,
  byte_step,
}
use Rattle.classes.specs.ClassGrammar.{
  SpellsByte,
  bare,
  slashed,
  SpellsItem,
  single,
  range,
  SpellsItems,
  one_item,
  next_item,
  SpellsClass,
  these,
  all_but_these,
}
use Rattle.classes.specs.ClassRun.{found, class_ran_on, class_run}

-- a byte that needs no `\` is none of the four
pub no_slash : (s : ClassSign) → needs_slash s ≡ false → s ≡ ordinary
no_slash ordinary e = refl
no_slash slash e = cc
no_slash ending e = cc
no_slash caret e = cc
no_slash dash e = cc

-- the reading goes on over these bytes, up to the place that many bytes further
pub record ClassRunsOn (bytes rest : List ℕ) (place : ℕ) (class : Class) (inside : Inside) (later : Class)
    (further : Inside)
    : Type 0 where
  pub next : ℕ
  pub counted : next + length rest ≡ place + length bytes
  pub same : class_run bytes place class inside ≡ class_run rest next later further

-- a byte where an item is due
pub byte_passes : {bytes rest : List ℕ} {b : ℕ} → SpellsByte bytes rest b → (place : ℕ) (class : Class)
    → ClassRunsOn bytes rest place class item_due class (byte_read b)
unfolding class_run
byte_passes (bare {b} p) place class =
    record { next = place + 1; counted = omega arith; same = rw (no_slash (class_sign b) p) }
byte_passes (slashed p) place class = record { next = place + 1 + 1; counted = omega arith; same = rw p }

-- a byte where the last one of a range is due
pub last_passes : {bytes rest : List ℕ} {last : ℕ} → SpellsByte bytes rest last → (place : ℕ) (class : Class)
    (first : ℕ) → first ≤ last → ClassRunsOn bytes rest place class (last_due first)
    (with_item class (from_to first last))
    item_due
unfolding class_run
last_passes (bare {b} p) place class first h =
    record {
      next = place + 1;
      counted = omega arith;
      same = rw (no_slash (class_sign b) p, le-ltb b first h);
    }
last_passes (slashed {b} p) place class first h =
    record { next = place + 1 + 1; counted = omega arith; same = rw (p, le-ltb b first h) }

-- no `-` stands first
abbrev pub NoDash : List ℕ → Type 0
NoDash [] = Unit {0}
NoDash (b ∷ rest) = class_sign b ≡ dash → ⊥

-- no `^` stands first
abbrev pub NoCaret : List ℕ → Type 0
NoCaret [] = Unit {0}
NoCaret (b ∷ rest) = class_sign b ≡ caret → ⊥

-- a byte that no `-` follows is an item
pub byte_done : (rest : List ℕ) (place : ℕ) (class : Class) (first : ℕ) → NoDash rest
    → class_run rest place class (byte_read first)
    ≡ class_run rest place (with_item class (from_to first first)) item_due
unfolding class_run
byte_done [] place class first h = refl
byte_done (b ∷ rest) place class first h = go (class_sign b) h
  where
    go : (s : ClassSign) → (s ≡ dash → ⊥)
        → class_ran_on (byte_step s b class first) rest (place + 1) (class_run rest (place + 1))
        ≡ class_ran_on (item_due_step s b (with_item class (from_to first first))) rest (place + 1)
        (class_run rest (place + 1))
    go dash k = absurd (k refl)
    go slash k = refl
    go ending k = refl
    go caret k = refl
    go ordinary k = refl

-- right after the `[`, where no `^` stands, an item is due
pub opened_due : (rest : List ℕ) (place : ℕ) (class : Class) → NoCaret rest
    → class_run rest place class opened ≡ class_run rest place class item_due
unfolding class_run
opened_due [] place class h = refl
opened_due (b ∷ rest) place class h = go (class_sign b) h
  where
    go : (s : ClassSign) → (s ≡ caret → ⊥)
        → class_ran_on (opened_step s b class) rest (place + 1) (class_run rest (place + 1))
        ≡ class_ran_on (item_due_step s b class) rest (place + 1) (class_run rest (place + 1))
    go caret k = absurd (k refl)
    go slash k = refl
    go ending k = refl
    go dash k = refl
    go ordinary k = refl

-- a sign that needs no `\` is neither of the two
ordinary_no_dash : (s : ClassSign) → needs_slash s ≡ false → s ≡ dash → ⊥
ordinary_no_dash s p e = let f : true ≡ false = rw e at p in let z : ◌≡◌ {A = ℕ} 0 1 = cc in omega arith

ordinary_no_caret : (s : ClassSign) → needs_slash s ≡ false → s ≡ caret → ⊥
ordinary_no_caret s p e = let f : true ≡ false = rw e at p in let z : ◌≡◌ {A = ℕ} 0 1 = cc in omega arith

-- so none stands where a written byte begins, nor an item, nor items
byte_no_dash : {bytes rest : List ℕ} {b : ℕ} → SpellsByte bytes rest b → NoDash bytes
byte_no_dash (bare {b} p) = ordinary_no_dash (class_sign b) p
byte_no_dash (slashed p) = λ e. let z : ◌≡◌ {A = ℕ} 0 1 = cc in omega arith

byte_no_caret : {bytes rest : List ℕ} {b : ℕ} → SpellsByte bytes rest b → NoCaret bytes
byte_no_caret (bare {b} p) = ordinary_no_caret (class_sign b) p
byte_no_caret (slashed p) = λ e. let z : ◌≡◌ {A = ℕ} 0 1 = cc in omega arith

item_no_dash : {bytes rest : List ℕ} {item : Item} → SpellsItem bytes rest item → NoDash bytes
item_no_dash (single r) = byte_no_dash r
item_no_dash (range r q h) = byte_no_dash r

item_no_caret : {bytes rest : List ℕ} {item : Item} → SpellsItem bytes rest item → NoCaret bytes
item_no_caret (single r) = byte_no_caret r
item_no_caret (range r q h) = byte_no_caret r

items_no_caret : {bytes rest : List ℕ} {items : List Item} → SpellsItems bytes rest items → NoCaret bytes
items_no_caret (one_item r) = item_no_caret r
items_no_caret (next_item r q) = items_no_caret r

-- an item that no `-` follows
item_passes : {bytes rest : List ℕ} {item : Item} → SpellsItem bytes rest item → NoDash rest
    → (place : ℕ) (class : Class) → ClassRunsOn bytes rest place class item_due (with_item class item) item_due
unfolding class_run
item_passes {rest = rest} (single {b} r) h place class =
    let on = byte_passes r place class in
    record {
      next = on.next;
      counted = on.counted;
      same = on.same ∙ byte_done rest on.next class b h;
    }
item_passes (range {first} {last} r q below) h place class =
    let on = byte_passes r place class in
    let off = last_passes q (on.next + 1) class first below in
    record { next = off.next; counted = omega (arith, on.counted, off.counted); same = on.same ∙ off.same }

-- a class with these items
abbrev pub class_of_items : Bool → List Item → Class
class_of_items all_but items = record { all_but = all_but; items = items }

-- items that no `-` follows
items_pass : {bytes rest : List ℕ} {items : List Item} → SpellsItems bytes rest items → NoDash rest
    → (place : ℕ) (all_but : Bool)
    → ClassRunsOn bytes rest place (class_of_items all_but []) item_due (class_of_items all_but items) item_due
items_pass (one_item r) h place all_but = item_passes r h place (class_of_items all_but [])
items_pass (next_item {items = items} r q) h place all_but =
    let on = items_pass r (item_no_dash q) place all_but in
    let off = item_passes q h on.next (class_of_items all_but items) in
    record { next = off.next; counted = omega (arith, on.counted, off.counted); same = on.same ∙ off.same }

-- there is an item, and there are 16 at most
fit : {bytes rest : List ℕ} {items : List Item} → SpellsItems bytes rest items → length items ≤ most_items
    → items_fit items ≡ true
fit (one_item r) h = refl
fit (next_item {items = items} r q) h = rw (le-ltb most_items (length (_ ∷ items)) h)

-- the reading finds the class
pub record FindsClass (bytes rest : List ℕ) (place : ℕ) (class : Class) : Type 0 where
  pub next : ℕ
  pub counted : next + length rest ≡ place + length bytes
  pub same : class_run bytes place unread opened ≡ found class rest next

pub class_found : {bytes rest : List ℕ} {class : Class} → SpellsClass bytes rest class → (place : ℕ)
    → FindsClass bytes rest place class
unfolding class_run
class_found {bytes} (these r h) place =
    let on = items_pass r (λ e. let z : ◌≡◌ {A = ℕ} 0 1 = cc in omega arith) place false in
    record {
      next = on.next + 1;
      counted = omega (arith, on.counted);
      same = opened_due bytes place unread (items_no_caret r) ∙ on.same ∙ rw (fit r h);
    }
class_found (all_but_these r h) place =
    let on = items_pass r (λ e. let z : ◌≡◌ {A = ℕ} 0 1 = cc in omega arith) (place + 1) true in
    record {
      next = on.next + 1;
      counted = omega (arith, on.counted);
      same = on.same ∙ rw (fit r h);
    }
