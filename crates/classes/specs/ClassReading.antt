-- What the readers of a byte, an item and the items of a class promise: how the reading of the class goes on after it.
use Rattle.std.specs.Prelude.{ℕ, ◌+◌, ◌≤◌, ◌<◌, ◌≡◌, refl, Bool, true, false, cond, List, [], ◌∷◌, Option, Some, None, length, drop, get_or, eqb, ltb}
use Rattle.std.proofs.Common.{ap, sym, ◌∙◌, subst, arith, add-one, length-drop, drop-cons, lt-ltb, ne_eqb}
use Rattle.std.proofs.Math.Decide.{dec_lt}
use Rattle.std.proofs.Math.Seq.{drop-length}
use Rattle.std.specs.Bool.{then_some}
use Rattle.classes.specs.Class.{
  Item,
  from_to,
  Class,
  with_item,
  most_items,
  items_fit,
  ClassSign,
  slash,
  ending,
  caret,
  dash,
  ordinary,
  class_sign,
  needs_slash,
  Inside,
  opened,
  item_due,
  byte_read,
  last_due,
  item_due_step,
  last_step,
}
use Rattle.classes.specs.ClassGrammar.{SpellsByte, bare, slashed}
use Rattle.classes.specs.ClassRun.{ClassRan, found, failed, class_ran_on, class_run}
use Rattle.classes.specs.ClassComplete.{
  NoDash,
  NoCaret,
  class_of_items,
  byte_passes,
  last_passes,
  byte_done,
  opened_due,
  no_slash,
}
use Rattle.classes.specs.ClassSound.{ClassMeans, class_sign_means}
use Rattle.classes.specs.declared.part.ClassByte.{ClassByte}
use Rattle.classes.specs.declared.part.ClassItem.{ClassItem}
use Rattle.classes.specs.declared.part.Due.{Due}
use Rattle.classes.specs.declared.part.Due.TheVariants.{Item as Item-due, End}

-- the reading of a class from a place on, where this much was read of it
unfoldable pub class_run_from : List ℕ → ℕ → Class → Inside → ClassRan
class_run_from bytes at class inside = class_run (drop at bytes) at class inside

-- a byte is written from `at` up to `next`
pub record ByteHere (bytes : List ℕ) (at b next : ℕ) : Type 0 where
  pub spelled : SpellsByte (drop at bytes) (drop next bytes) b
  pub further : at < next
  pub within : next ≤ length bytes

-- no byte is written there: the end, one of the four with no `\` before it, or a `\` that is last or before another
-- byte
pub data BadByte : List ℕ → Type 0 where
  at_end : BadByte []
  bare_sign : {b : ℕ} {rest : List ℕ} → needs_slash (class_sign b) ≡ true → (b ≡ 92 → ⊥) → BadByte (b ∷ rest)
  last_slash : BadByte (92 ∷ [])
  wrong_slash : {b : ℕ} {rest : List ℕ} → needs_slash (class_sign b) ≡ false → BadByte (92 ∷ b ∷ rest)

-- what the reader of a byte answers
abbrev pub ByteAnswer : (bytes : List ℕ) (at : ℕ) → Option ClassByte → Type 0
ByteAnswer bytes at (Some byte) = ByteHere bytes at byte.byte byte.next
ByteAnswer bytes at None = BadByte (drop at bytes)

-- by whether it may stand there
pub byte_answer : {bytes : List ℕ} {at : ℕ} (may : Bool) (byte : ClassByte)
    → (may ≡ true → ByteHere bytes at byte.byte byte.next) → (may ≡ false → BadByte (drop at bytes))
    → ByteAnswer bytes at (then_some may byte)
byte_answer true byte here bad = here refl
byte_answer false byte here bad = bad refl

-- an item from `at` up to `next`, whatever was read of the class before it
pub record ItemHere (bytes : List ℕ) (at first last next : ℕ) : Type 0 where
  pub on : (class : Class) → class_run_from bytes at class item_due
      ≡ class_run_from bytes next (with_item class (from_to first last)) item_due
  pub ordered : first ≤ last
  pub further : at < next
  pub within : next ≤ length bytes

-- no item is written there
pub record BadItem (bytes : List ℕ) (at : ℕ) : Type 0 where
  pub fails : (class : Class) → class_run_from bytes at class item_due ≡ failed

-- what the reader of an item answers
abbrev pub ItemAnswer : (bytes : List ℕ) (at : ℕ) → Option ClassItem → Type 0
ItemAnswer bytes at (Some item) = ItemHere bytes at item.first item.last item.next
ItemAnswer bytes at None = BadItem bytes at

-- a range with this first byte, whose last byte is written from `at` up to `next`
pub record RangeHere (bytes : List ℕ) (first at first' last next : ℕ) : Type 0 where
  pub same : first' ≡ first
  pub on : (class : Class) → class_run_from bytes at class (last_due first)
      ≡ class_run_from bytes next (with_item class (from_to first last)) item_due
  pub ordered : first ≤ last
  pub further : at < next
  pub within : next ≤ length bytes

-- no range with this first byte
pub record BadRange (bytes : List ℕ) (first at : ℕ) : Type 0 where
  pub fails : (class : Class) → class_run_from bytes at class (last_due first) ≡ failed

-- what the reader of a range's last byte answers
abbrev pub RangeAnswer : (bytes : List ℕ) (first at : ℕ) → Option ClassItem → Type 0
RangeAnswer bytes first at (Some item) = RangeHere bytes first at item.first item.last item.next
RangeAnswer bytes first at None = BadRange bytes first at

-- at the end, or before a byte, the list that is left
pub left_at_end : (bytes : List ℕ) (at : ℕ) → at ≡ length bytes → drop at bytes ≡ []
left_at_end bytes at e = rw (e, drop-length)

pub left_at : (bytes : List ℕ) (at : ℕ) → at < length bytes → drop at bytes ≡ get_or bytes at 0 ∷ drop (at + 1) bytes
left_at bytes at h = rw add-one (drop-cons bytes at 0 h)

-- this byte stands at a place
abbrev pub ByteAt : (bytes : List ℕ) (at b : ℕ) → Type 0
ByteAt bytes at b = (at < length bytes) × ((d : ℕ) → b ≡ get_or bytes at d)

left_of : (bytes : List ℕ) (at b : ℕ) → ByteAt bytes at b → drop at bytes ≡ b ∷ drop (at + 1) bytes
left_of bytes at b h = rw (h.1 0) (left_at bytes at h.0)

module _ (bytes : List ℕ) (at : ℕ) where
  -- a byte that needs no `\`
  pub found_bare : {b : ℕ} → ByteAt bytes at b → needs_slash (class_sign b) ≡ false → ByteHere bytes at b (at + 1)
  found_bare {b} h p =
      record { spelled = rw (left_of bytes at b h) (bare p); further = omega arith; within = omega (arith, h.0) }

  -- no byte, and one that needs a `\` and has none
  pub bad_end : at ≤ length bytes → length bytes ≤ at → BadByte (drop at bytes)
  bad_end h k = rw (left_at_end bytes at (omega arith)) at_end

  pub bad_bare : {b : ℕ} → ByteAt bytes at b → (b ≡ 92 → ⊥) → needs_slash (class_sign b) ≡ true
      → BadByte (drop at bytes)
  bad_bare {b} h k p = rw (left_of bytes at b h) (bare_sign p k)

  module _ {slash : ℕ} (h : ByteAt bytes at slash) (e : slash ≡ 92) where
    -- after a `\`: a byte that needs one, the end, and another byte
    pub found_slashed : {b : ℕ} → ByteAt bytes (at + 1) b → needs_slash (class_sign b) ≡ true
        → ByteHere bytes at b (at + 2)
    found_slashed {b} k p =
        let two : at + 2 ≡ at + 1 + 1 = omega arith in
        record {
          spelled = rw (left_of bytes at slash h, e, left_of bytes (at + 1) b k, two) (slashed p);
          further = omega arith;
          within = omega (arith, k.0);
        }

    pub bad_last : length bytes ≤ at + 1 → BadByte (drop at bytes)
    bad_last k =
        rw (left_of bytes at slash h, e, left_at_end bytes (at + 1) (omega (arith, h.0))) last_slash

    pub bad_slash : {b : ℕ} → ByteAt bytes (at + 1) b → needs_slash (class_sign b) ≡ false → BadByte (drop at bytes)
    bad_slash {b} k p = rw (left_of bytes at slash h, e, left_of bytes (at + 1) b k) (wrong_slash p)

-- the place after so many bytes
same_place : (bytes : List ℕ) (at next there : ℕ) → at ≤ length bytes → next ≤ length bytes
    → there + length (drop next bytes) ≡ at + length (drop at bytes) → there ≡ next
same_place bytes at next there h k e = omega (arith, e, length-drop at bytes, length-drop next bytes)

-- a byte where an item is due, and where a range's last byte is due
pub byte_on : {bytes : List ℕ} {at b next : ℕ} → ByteHere bytes at b next → (class : Class)
    → class_run_from bytes at class item_due ≡ class_run_from bytes next class (byte_read b)
unfolding class_run_from
byte_on {bytes} {at} {b} {next} r class =
    let on = byte_passes r.spelled at class in
    on.same ∙ ap (λ (n : ℕ). class_run (drop next bytes) n class (byte_read b))
    (same_place bytes at next on.next (omega (arith, r.further, r.within)) r.within on.counted)

pub last_on : {bytes : List ℕ} {at last next : ℕ} → ByteHere bytes at last next → (first : ℕ) → first ≤ last
    → (class : Class)
    → class_run_from bytes at class (last_due first)
    ≡ class_run_from bytes next (with_item class (from_to first last)) item_due
unfolding class_run_from
last_on {bytes} {at} {last} {next} r first h class =
    let on = last_passes r.spelled at class first h in
    on.same ∙ ap (λ (n : ℕ). class_run (drop next bytes) n (with_item class (from_to first last)) item_due)
    (same_place bytes at next on.next (omega (arith, r.further, r.within)) r.within on.counted)

-- a range whose first byte is above its last
above_fails : {bytes rest : List ℕ} {last : ℕ} → SpellsByte bytes rest last → (place : ℕ) (class : Class) (first : ℕ)
    → last < first → class_run bytes place class (last_due first) ≡ failed
unfolding class_run
above_fails (bare {b} p) place class first h = rw (no_slash (class_sign b) p, lt-ltb b first h)
above_fails (slashed {b} p) place class first h = rw (p, lt-ltb b first h)

pub above_bad : {bytes : List ℕ} {at last next : ℕ} → ByteHere bytes at last next → (first : ℕ) → last < first
    → BadRange bytes first at
unfolding class_run_from
above_bad {at = at} r first h = record { fails = λ class. above_fails r.spelled at class first h }

-- no `]` stands first
abbrev NoEnding : List ℕ → Type 0
NoEnding [] = Unit {0}
NoEnding (b ∷ rest) = class_sign b ≡ ending → ⊥

-- a sign that needs a `\` is faulty where an item is due, but for the `\` and the `]`
due_faulty : (s : ClassSign) (b : ℕ) (class : Class) (rest : List ℕ) (next : ℕ) (on : Class → Inside → ClassRan)
    → needs_slash s ≡ true → (s ≡ slash → ⊥) → (s ≡ ending → ⊥)
    → class_ran_on (item_due_step s b class) rest next on ≡ failed
due_faulty caret b class rest next on p k l = refl
due_faulty dash b class rest next on p k l = refl
due_faulty slash b class rest next on p k l = absurd (k refl)
due_faulty ending b class rest next on p k l = absurd (l refl)
due_faulty ordinary b class rest next on p k l = cc

last_faulty : (s : ClassSign) (b : ℕ) (class : Class) (first : ℕ) (rest : List ℕ) (next : ℕ)
    (on : Class → Inside → ClassRan) → needs_slash s ≡ true → (s ≡ slash → ⊥)
    → class_ran_on (last_step s b class first) rest next on ≡ failed
last_faulty caret b class first rest next on p k = refl
last_faulty dash b class first rest next on p k = refl
last_faulty ending b class first rest next on p k = refl
last_faulty slash b class first rest next on p k = absurd (k refl)
last_faulty ordinary b class first rest next on p k = cc

-- the `\` is told by its sign
sign_slash : (b : ℕ) (s : ClassSign) → ClassMeans b s → (b ≡ 92 → ⊥) → s ≡ slash → ⊥
sign_slash b slash m k e = k m
sign_slash b ending m k e = let z : ◌≡◌ {A = ℕ} 0 1 = cc in omega arith
sign_slash b caret m k e = let z : ◌≡◌ {A = ℕ} 0 1 = cc in omega arith
sign_slash b dash m k e = let z : ◌≡◌ {A = ℕ} 0 1 = cc in omega arith
sign_slash b ordinary m k e = let z : ◌≡◌ {A = ℕ} 0 1 = cc in omega arith

-- where no byte is written, the class is not of the form
bad_due : {bytes : List ℕ} → BadByte bytes → NoEnding bytes → (place : ℕ) (class : Class)
    → class_run bytes place class item_due ≡ failed
unfolding class_run
bad_due at_end l place class = refl
bad_due (bare_sign {b} p k) l place class =
    due_faulty (class_sign b) b class _ _ _ p (sign_slash b (class_sign b) (class_sign_means b) k) l
bad_due last_slash l place class = refl
bad_due (wrong_slash p) l place class = rw p

bad_last_byte : {bytes : List ℕ} → BadByte bytes → (place : ℕ) (class : Class) (first : ℕ)
    → class_run bytes place class (last_due first) ≡ failed
unfolding class_run
bad_last_byte at_end place class first = refl
bad_last_byte (bare_sign {b} p k) place class first =
    last_faulty (class_sign b) b class first _ _ _ p (sign_slash b (class_sign b) (class_sign_means b) k)
bad_last_byte last_slash place class first = refl
bad_last_byte (wrong_slash p) place class first = rw p

-- the byte that ends a class, and the ones before which a byte and a `[` are done
sign_byte : (b : ℕ) (s : ClassSign) → ClassMeans b s → (b ≡ 93 → ⊥) → s ≡ ending → ⊥
sign_byte b ending m k e = k m
sign_byte b slash m k e = let z : ◌≡◌ {A = ℕ} 0 1 = cc in omega arith
sign_byte b caret m k e = let z : ◌≡◌ {A = ℕ} 0 1 = cc in omega arith
sign_byte b dash m k e = let z : ◌≡◌ {A = ℕ} 0 1 = cc in omega arith
sign_byte b ordinary m k e = let z : ◌≡◌ {A = ℕ} 0 1 = cc in omega arith

sign_dash : (b : ℕ) (s : ClassSign) → ClassMeans b s → (b ≡ 45 → ⊥) → s ≡ dash → ⊥
sign_dash b dash m k e = k m
sign_dash b slash m k e = let z : ◌≡◌ {A = ℕ} 0 1 = cc in omega arith
sign_dash b caret m k e = let z : ◌≡◌ {A = ℕ} 0 1 = cc in omega arith
sign_dash b ending m k e = let z : ◌≡◌ {A = ℕ} 0 1 = cc in omega arith
sign_dash b ordinary m k e = let z : ◌≡◌ {A = ℕ} 0 1 = cc in omega arith

sign_caret : (b : ℕ) (s : ClassSign) → ClassMeans b s → (b ≡ 94 → ⊥) → s ≡ caret → ⊥
sign_caret b caret m k e = k m
sign_caret b slash m k e = let z : ◌≡◌ {A = ℕ} 0 1 = cc in omega arith
sign_caret b dash m k e = let z : ◌≡◌ {A = ℕ} 0 1 = cc in omega arith
sign_caret b ending m k e = let z : ◌≡◌ {A = ℕ} 0 1 = cc in omega arith
sign_caret b ordinary m k e = let z : ◌≡◌ {A = ℕ} 0 1 = cc in omega arith

-- what holds of no bytes, and of the byte at a place with those after it, holds of the bytes that are left there
left_holds : (P : List ℕ → Type 0) (bytes : List ℕ) (at : ℕ) → at ≤ length bytes → P []
    → (at < length bytes → P (get_or bytes at 0 ∷ drop (at + 1) bytes)) → P (drop at bytes)
left_holds P bytes at within none some = elim (dec_lt at (length bytes)) [
  | yes h ↦ subst P (sym (left_at bytes at h)) (some h)
  | no h ↦ subst P (sym (left_at_end bytes at (omega arith))) none
]

-- after a byte a `-` begins a range
dash_on : (bytes : List ℕ) (next : ℕ) → next < length bytes → get_or bytes next 0 ≡ 45 → (class : Class) (first : ℕ)
    → class_run_from bytes next class (byte_read first) ≡ class_run_from bytes (next + 1) class (last_due first)
unfolding class_run_from class_run
dash_on bytes next h e class first = rw (left_at bytes next h, e)

module _ {bytes : List ℕ} {at : ℕ} where
  -- an item of one byte: no `-` follows it
  pub item_single : {b next : ℕ} → ByteHere bytes at b next
      → ((next < length bytes) × (get_or bytes next 0 ≡ 45) → ⊥) → ItemHere bytes at b b next
  unfolding class_run_from
  item_single {b} {next} r no-dash =
      let alone : NoDash (drop next bytes) =
      left_holds NoDash bytes next r.within tt
      (λ h. sign_dash (get_or bytes next 0) _ (class_sign_means (get_or bytes next 0)) (λ e. no-dash (h, e))) in
      record {
        on = λ class. byte_on r class ∙ byte_done (drop next bytes) next class b alone;
        ordered = omega arith;
        further = r.further;
        within = r.within;
      }

  pub item_range : {first first' last between next : ℕ} → ByteHere bytes at first between → between < length bytes
      → get_or bytes between 0 ≡ 45 → RangeHere bytes first (between + 1) first' last next
      → ItemHere bytes at first' last next
  item_range {first} {first'} {last} {between} {next} r h e q =
      record {
        on = λ class. byte_on r class ∙ dash_on bytes between h e class first ∙ q.on class
            ∙ ap (λ (f : ℕ). class_run_from bytes next (with_item class (from_to f last)) item_due) (sym q.same);
        ordered = omega (arith, q.same, q.ordered);
        further = omega (arith, r.further, q.further);
        within = q.within;
      }

  pub bad_range_item : {first between : ℕ} → ByteHere bytes at first between → between < length bytes
      → get_or bytes between 0 ≡ 45 → BadRange bytes first (between + 1) → BadItem bytes at
  bad_range_item {first} {between} r h e q =
      record { fails = λ class. byte_on r class ∙ dash_on bytes between h e class first ∙ q.fails class }

  -- no byte where an item begins
  pub bad_byte_item : at ≤ length bytes → (at < length bytes → get_or bytes at 0 ≡ 93 → ⊥) → BadByte (drop at bytes)
      → BadItem bytes at
  unfolding class_run_from
  bad_byte_item within no_end bad =
      let open_end : NoEnding (drop at bytes) =
      left_holds NoEnding bytes at within tt
      (λ h. sign_byte (get_or bytes at 0) _ (class_sign_means (get_or bytes at 0)) (no_end h)) in
      record { fails = λ class. bad_due bad open_end at class }

  pub bad_byte_range : (first : ℕ) → BadByte (drop at bytes) → BadRange bytes first at
  unfolding class_run_from
  bad_byte_range first bad = record { fails = λ class. bad_last_byte bad at class first }

-- whether there are 1 to 16 items, by their count
abbrev pub count_fits : ℕ → Bool
count_fits n = cond (eqb n 0) false (cond (ltb most_items n) false true)

-- the `]` stands at a place, after so many items that the class may end
pub record EndHere (bytes : List ℕ) (at count : ℕ) : Type 0 where
  pub inside : at < length bytes
  pub ending : get_or bytes at 0 ≡ 93
  pub fits : count_fits count ≡ true

-- neither an item nor such a `]` stands there
pub data NothingDue (bytes : List ℕ) (at count : ℕ) : Type 0 where
  unfit : at < length bytes → get_or bytes at 0 ≡ 93 → count_fits count ≡ false → NothingDue bytes at count
  no_item : BadItem bytes at → NothingDue bytes at count

-- what the reader of what is due answers
abbrev pub DueAnswer : (bytes : List ℕ) (at count : ℕ) → Option Due → Type 0
DueAnswer bytes at count (Some (Item-due item)) = ItemHere bytes at item.first item.last item.next
DueAnswer bytes at count (Some End) = EndHere bytes at count
DueAnswer bytes at count None = NothingDue bytes at count

pub items_fit_count : (items : List Item) → items_fit items ≡ count_fits (length items)
items_fit_count [] = refl
items_fit_count (item ∷ items) = rw (ne_eqb (length (item ∷ items)) 0 (omega arith))

module _ (bytes : List ℕ) (at : ℕ) (h : at < length bytes) (class : Class) where
  -- the `]` of a class with 1 to 16 items ends it
  pub ends_whole : get_or bytes at 0 ≡ 93 → items_fit class.items ≡ true
      → class_run_from bytes at class item_due ≡ found class (drop (at + 1) bytes) (at + 1)
  unfolding class_run_from class_run
  ends_whole e fits = rw (left_at bytes at h, e, fits)

  -- of another it is faulty
  pub ends_faulty : get_or bytes at 0 ≡ 93 → items_fit class.items ≡ false
      → class_run_from bytes at class item_due ≡ failed
  unfolding class_run_from class_run
  ends_faulty e fits = rw (left_at bytes at h, e, fits)

  -- a `^` right after the `[`
  pub opened_caret : get_or bytes at 0 ≡ 94
      → class_run_from bytes at class opened
      ≡ class_run_from bytes (at + 1) (class_of_items true class.items) item_due
  unfolding class_run_from class_run
  opened_caret e = rw (left_at bytes at h, e)

-- the end comes in the class
pub runs_out : (bytes : List ℕ) (at : ℕ) (class : Class) (inside : Inside) → at ≡ length bytes
    → class_run_from bytes at class inside ≡ failed
unfolding class_run_from class_run
runs_out bytes at class inside e = rw (left_at_end bytes at e)

-- no `^` right after the `[`: an item is due
pub opened_plainly : (bytes : List ℕ) (at : ℕ) (class : Class) → at ≤ length bytes
    → ((at < length bytes) × (get_or bytes at 0 ≡ 94) → ⊥)
    → class_run_from bytes at class opened ≡ class_run_from bytes at class item_due
unfolding class_run_from
opened_plainly bytes at class within no-caret =
    opened_due (drop at bytes) at class
    (left_holds NoCaret bytes at within tt
    (λ h. sign_caret (get_or bytes at 0) _ (class_sign_means (get_or bytes at 0)) (λ e. no-caret (h, e))))
