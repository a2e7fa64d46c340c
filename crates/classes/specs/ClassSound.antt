-- What the reading of a class finds, its grammar reads: at every byte the reading's state says what was read from the
-- `[` up to there.
use Rattle.std.specs.Prelude.{ℕ, ◌+◌, ◌≤◌, ◌≡◌, refl, Bool, true, false, cond, List, [], ◌∷◌, length, eqb, ltb}
use Rattle.std.proofs.Common.{arith, eqb-true, ltb-false}
use Rattle.classes.specs.Class.{
  Item,
  Class,
  unread,
  most_items,
  items_fit,
  ClassSign,
  slash,
  ending,
  caret,
  dash,
  ordinary,
  class_sign,
  needs_slash,
  Inside,
  opened,
  item_due,
  byte_read,
  last_due,
  item_escaped,
  last_escaped,
  ClassStep,
  goes_on,
  whole,
  faulty,
  item_due_step,
  opened_step,
  byte_step,
  range_step,
  last_step,
  class_step,
}
use Rattle.classes.specs.ClassGrammar.{
  SpellsByte,
  bare,
  slashed,
  SpellsItem,
  single,
  range,
  SpellsItems,
  one_item,
  next_item,
  SpellsClass,
  these,
  all_but_these,
}
use Rattle.classes.specs.ClassRun.{ClassRan, found, failed, class_ran_on, class_run}

-- the byte that a sign of a class belongs to
abbrev pub ClassMeans : ℕ → ClassSign → Type 0
ClassMeans b slash = b ≡ 92
ClassMeans b ending = b ≡ 93
ClassMeans b caret = b ≡ 94
ClassMeans b dash = b ≡ 45
ClassMeans b ordinary = Unit {0}

picked : (P : ClassSign → Type 0) (test : Bool) (s r : ClassSign) → (test ≡ true → P s) → P r → P (cond test s r)
picked P true s r first other = first refl
picked P false s r first other = other

-- every byte is the one that its sign belongs to
pub class_sign_means : (b : ℕ) → ClassMeans b (class_sign b)
class_sign_means b =
    picked (ClassMeans b) (eqb b 92) slash _ (eqb-true b 92)
    (picked (ClassMeans b) (eqb b 93) ending _ (eqb-true b 93)
    (picked (ClassMeans b) (eqb b 94) caret _ (eqb-true b 94)
    (picked (ClassMeans b) (eqb b 45) dash ordinary (eqb-true b 45) tt)))

-- how the class began: with its items, or with a `^` before them
pub data ClassBegun : List ℕ → List ℕ → Bool → Type 0 where
  plainly : {body : List ℕ} → ClassBegun body body false
  by_caret : {body : List ℕ} → ClassBegun (94 ∷ body) body true

-- the items read so far
pub data ItemsRead : List ℕ → List ℕ → List Item → Type 0 where
  no_item : {rest : List ℕ} → ItemsRead rest rest []
  some_items : {body rest : List ℕ} {items : List Item} → SpellsItems body rest items → ItemsRead body rest items

-- what the state says of the bytes from after the `[` up to the rest
pub data ClassSoFar (from : List ℕ) : List ℕ → Bool → List Item → Inside → Type 0 where
  at_opened : {rest : List ℕ} → from ≡ rest → ClassSoFar from rest false [] opened
  at_item : {body rest : List ℕ} {all_but : Bool} {items : List Item} → ClassBegun from body all_but
      → ItemsRead body rest items → ClassSoFar from rest all_but items item_due
  at_byte : {body between rest : List ℕ} {all_but : Bool} {items : List Item} {first : ℕ}
      → ClassBegun from body all_but
      → ItemsRead body between items → SpellsByte between rest first
      → ClassSoFar from rest all_but items (byte_read first)
  at_last : {body between rest : List ℕ} {all_but : Bool} {items : List Item} {first : ℕ}
      → ClassBegun from body all_but
      → ItemsRead body between items → SpellsByte between (45 ∷ rest) first
      → ClassSoFar from rest all_but items (last_due first)
  at_item_escape : {body rest : List ℕ} {all_but : Bool} {items : List Item} → ClassBegun from body all_but
      → ItemsRead body (92 ∷ rest) items → ClassSoFar from rest all_but items item_escaped
  at_last_escape : {body between rest : List ℕ} {all_but : Bool} {items : List Item} {first : ℕ}
      → ClassBegun from body all_but → ItemsRead body between items → SpellsByte between (45 ∷ 92 ∷ rest) first
      → ClassSoFar from rest all_but items (last_escaped first)

-- one more item
one_more : {body between rest : List ℕ} {items : List Item} {item : Item} → ItemsRead body between items
    → SpellsItem between rest item → ItemsRead body rest (item ∷ items)
one_more no_item r = some_items (one_item r)
one_more (some_items q) r = some_items (next_item q r)

-- 1 to 16 items are as many as a class may have
few_items : (items : List Item) → items_fit items ≡ true → length items ≤ most_items
few_items [] e = omega arith
few_items (item ∷ items) e = go (ltb most_items (length (item ∷ items))) refl e
  where
    go : (test : Bool) → ltb most_items (length (item ∷ items)) ≡ test → cond test false true ≡ true
        → length (item ∷ items) ≤ most_items
    go true f e = let z : ◌≡◌ {A = ℕ} 0 1 = cc in absurd (omega arith)
    go false f e = ltb-false most_items (length (item ∷ items)) f

-- the class is whole
ended : {from body rest : List ℕ} {all_but : Bool} {items : List Item} → ClassBegun from body all_but
    → ItemsRead body (93 ∷ rest) items → items_fit items ≡ true
    → SpellsClass from rest (record { all_but = all_but; items = items })
ended begun no_item e = let z : ◌≡◌ {A = ℕ} 0 1 = cc in absurd (omega arith)
ended plainly (some_items {items = items} r) e = these r (few_items items e)
ended by_caret (some_items {items = items} r) e = all_but_these r (few_items items e)

-- what holds after one byte
abbrev pub AfterClassByte : List ℕ → List ℕ → ClassStep → Type 0
AfterClassByte from rest (goes_on class inside) = ClassSoFar from rest class.all_but class.items inside
AfterClassByte from rest (whole class) = SpellsClass from rest class
AfterClassByte from rest faulty = Unit {0}

module _ (from rest : List ℕ) where
  picked_kept : (test : Bool) (s r : ClassStep) → (test ≡ true → AfterClassByte from rest s)
      → (test ≡ false → AfterClassByte from rest r)
      → AfterClassByte from rest (cond test s r)
  picked_kept true s r p q = p refl
  picked_kept false s r p q = q refl

  -- where an item is due
  due_kept : {body : List ℕ} (s : ClassSign) (b : ℕ) (class : Class) → class_sign b ≡ s → ClassMeans b s
      → ClassBegun from body class.all_but → ItemsRead body (b ∷ rest) class.items
      → AfterClassByte from rest (item_due_step s b class)
  due_kept slash b class e m begun g = at_item_escape begun (rw m at g)
  due_kept ending b class e m begun g =
      picked_kept (items_fit class.items) (whole class) faulty (λ f. ended begun (rw m at g) f) (λ f. tt)
  due_kept caret b class e m begun g = tt
  due_kept dash b class e m begun g = tt
  due_kept ordinary b class e m begun g = at_byte begun g (bare {b = b} (rw e))

  -- right after the `[`
  opened_kept : (s : ClassSign) (b : ℕ) → class_sign b ≡ s → ClassMeans b s → from ≡ b ∷ rest
      → AfterClassByte from rest (opened_step s b unread)
  opened_kept caret b e m f = rw (f, m) (at_item by_caret no_item)
  opened_kept slash b e m f = due_kept slash b unread e m plainly (rw f no_item)
  opened_kept ending b e m f = due_kept ending b unread e m plainly (rw f no_item)
  opened_kept dash b e m f = tt
  opened_kept ordinary b e m f = due_kept ordinary b unread e m plainly (rw f no_item)

  -- after a byte
  byte_kept : {body between : List ℕ} (s : ClassSign) (b : ℕ) (class : Class) (first : ℕ) → class_sign b ≡ s
      → ClassMeans b s → ClassBegun from body class.all_but → ItemsRead body between class.items
      → SpellsByte between (b ∷ rest) first → AfterClassByte from rest (byte_step s b class first)
  byte_kept dash b class first e m begun g r = at_last begun g (rw m at r)
  byte_kept slash b class first e m begun g r = due_kept slash b _ e m begun (one_more g (single r))
  byte_kept ending b class first e m begun g r = due_kept ending b _ e m begun (one_more g (single r))
  byte_kept caret b class first e m begun g r = tt
  byte_kept ordinary b class first e m begun g r = due_kept ordinary b _ e m begun (one_more g (single r))

  -- the last byte of a range
  range_kept : {body between after : List ℕ} (last : ℕ) (class : Class) (first : ℕ)
      → ClassBegun from body class.all_but
      → ItemsRead body between class.items → SpellsByte between (45 ∷ after) first → SpellsByte after rest last
      → AfterClassByte from rest (range_step last class first)
  range_kept last class first begun g r q =
      picked_kept (ltb last first) faulty _ (λ f. tt) (λ f. at_item begun (one_more g (range r q
      (ltb-false last first f))))

  last_kept : {body between : List ℕ} (s : ClassSign) (b : ℕ) (class : Class) (first : ℕ) → class_sign b ≡ s
      → ClassMeans b s → ClassBegun from body class.all_but → ItemsRead body between class.items
      → SpellsByte between (45 ∷ b ∷ rest) first → AfterClassByte from rest (last_step s b class first)
  last_kept slash b class first e m begun g r = at_last_escape begun g (rw m at r)
  last_kept ending b class first e m begun g r = tt
  last_kept caret b class first e m begun g r = tt
  last_kept dash b class first e m begun g r = tt
  last_kept ordinary b class first e m begun g r = range_kept b class first begun g r (bare {b = b} (rw e))

  -- in each state
  pub step_kept : (b : ℕ) (all_but : Bool) (items : List Item) (inside : Inside)
      → ClassSoFar from (b ∷ rest) all_but items inside
      → AfterClassByte from rest (class_step b (record { all_but = all_but; items = items }) inside)
  step_kept b all_but items opened (at_opened f) = opened_kept (class_sign b) b refl (class_sign_means b) f
  step_kept b all_but items item_due (at_item begun g) =
      due_kept (class_sign b) b _ refl (class_sign_means b) begun g
  step_kept b all_but items (byte_read first) (at_byte begun g r) =
      byte_kept (class_sign b) b _ first refl (class_sign_means b) begun g r
  step_kept b all_but items (last_due first) (at_last begun g r) =
      last_kept (class_sign b) b _ first refl (class_sign_means b) begun g r
  step_kept b all_but items item_escaped (at_item_escape begun g) =
      picked_kept (needs_slash (class_sign b)) _ faulty (λ p. at_byte begun g (slashed p)) (λ p. tt)
  step_kept b all_but items (last_escaped first) (at_last_escape begun g r) =
      picked_kept (needs_slash (class_sign b)) _ faulty (λ p. range_kept b _ first begun g r (slashed p)) (λ p. tt)

-- what a class was read to be, its grammar reads
abbrev ClassSpelled : List ℕ → ClassRan → Type 0
ClassSpelled from (found class rest next) = SpellsClass from rest class
ClassSpelled from failed = Unit {0}

-- by induction on the bytes that are left
pub run_spelled : (from bytes : List ℕ) (place : ℕ) (class : Class) (inside : Inside)
    → ClassSoFar from bytes class.all_but class.items inside
    → ClassSpelled from (class_run bytes place class inside)
unfolding class_run
run_spelled from [] place class inside s = tt
run_spelled from (b ∷ rest) place class inside s =
    go (class_step b class inside) (step_kept from rest b class.all_but class.items inside s)
    (run_spelled from rest (place + 1))
  where
    go : (step : ClassStep) → AfterClassByte from rest step
        → ((class : Class) (inside : Inside) → ClassSoFar from rest class.all_but class.items inside
        → ClassSpelled from (class_run rest (place + 1) class inside))
        → ClassSpelled from (class_ran_on step rest (place + 1) (class_run rest (place + 1)))
    go (goes_on class inside) s on = on class inside s
    go (whole class) s on = s
    go faulty s on = tt

-- the class that is found right after a `[` is written there
pub class_spelled : (bytes rest : List ℕ) (place next : ℕ) (class : Class)
    → class_run bytes place unread opened ≡ found class rest next → SpellsClass bytes rest class
class_spelled bytes rest place next class e = rw e at (run_spelled bytes bytes place unread opened (at_opened refl))
