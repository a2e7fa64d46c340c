-- The bytes of a class in a list of 256 numbers, 1 for each value that it takes: what reading a class collects, and
-- what its record is written from.
use Rattle.std.specs.Prelude.{ℕ, refl, zero, suc, ◌-◌, ◌^◌, ◌+◌, ◌*◌, ◌≤◌, ◌<◌, ◌≡◌, Bool, true, false, cond, List, [], length, get_or, set}
use Rattle.std.proofs.Common.{pow-suc, ap, sym, ◌∙◌, arith, ext_get_or, get_or-set_same, get_or-set_other, lt-ltb, le-ltb}
use Rattle.std.proofs.Math.Decide.{dec_lt, ℕ_discrete}
use Rattle.tree.specs.Cut.{one}
use Rattle.tree.specs.Layout.{class_record_size}
use Rattle.classes.specs.Class.{from_to, Class, class_takes, with_item}
use Rattle.classes.specs.ClassComplete.{class_of_items}
use Rattle.classes.specs.ClassRecord.{member_bits, class_record}
use Rattle.classes.specs.ClassRecordLaws.{one_at_most, member_byte, record_length}

-- how many values a byte has
abbrev pub value_count : ℕ
value_count = 256

-- the list tells the values of a class
pub record Members (class : Class) (members : List ℕ) : Type 0 where
  pub long : length members ≡ value_count
  pub each : (v : ℕ) → v < value_count → get_or members v 0 ≡ one (class_takes class v)

-- every value has this number
pub record EveryValue (members : List ℕ) (value : ℕ) : Type 0 where
  pub each : (v : ℕ) → v < value_count → get_or members v 0 ≡ value

-- the values from the first to before `stop` have this number, the others what they had
pub record Put (before after : List ℕ) (first stop value : ℕ) : Type 0 where
  pub inside : (v : ℕ) → first ≤ v → v < stop → get_or after v 0 ≡ value
  pub below : (v : ℕ) → v < first → get_or after v 0 ≡ get_or before v 0
  pub above : (v : ℕ) → stop ≤ v → get_or after v 0 ≡ get_or before v 0

-- a number of a list where one was set
at_set : (list : List ℕ) (i v a : ℕ) → i < length list → v ≡ i → get_or (set list i a) v 0 ≡ a
at_set list i v a h e = rw e (get_or-set_same list i a 0 h)

-- the values before i have this number
pub record FilledUpTo (members : List ℕ) (value i : ℕ) : Type 0 where
  pub each : (v : ℕ) → v < i → get_or members v 0 ≡ value

pub filled_more : {members : List ℕ} {value i : ℕ} → FilledUpTo members value i → i < length members
    → FilledUpTo (set members i value) value (i + 1)
filled_more {members} {value} {i} f h =
    record {
      each = λ v l. elim (ℕ_discrete v i) [
        | yes e ↦ at_set members i v value h e
        | no e ↦ get_or-set_other members i v value 0 e ∙ f.each v (omega arith)
      ];
    }

-- one more value is put
pub put_more : {before after : List ℕ} {first v value : ℕ} → Put before after first v value → first ≤ v
    → v < length after → Put before (set after v value) first (v + 1) value
put_more {before} {after} {first} {v} {value} p below h =
    record {
      inside = λ u l k. elim (ℕ_discrete u v) [
        | yes e ↦ at_set after v u value h e
        | no e ↦ get_or-set_other after v u value 0 e ∙ p.inside u l (omega arith)
      ];
      below = λ u l. get_or-set_other after v u value 0 (λ e. omega arith) ∙ p.below u l;
      above = λ u l. get_or-set_other after v u value 0 (λ e. omega arith) ∙ p.above u (omega arith);
    }

pub put_none : (before : List ℕ) (first value : ℕ) → Put before before first first value
put_none before first value =
    record { inside = λ v l k. absurd (omega arith); below = λ v l. refl; above = λ v l. refl }

-- the number of a value in an item: 0 where all but the items are taken, else 1
abbrev pub item_value : (all_but : Bool) → ℕ
item_value all_but = one (cond all_but false true)

-- a class with no item
pub filled_members : (all_but : Bool) (members : List ℕ) → length members ≡ value_count
    → EveryValue members (one all_but)
    → Members (class_of_items all_but []) members
filled_members all_but members long f = record { long = long; each = λ v h. f.each v h }

-- one more item
pub put_members : (class : Class) (before after : List ℕ) (first last : ℕ) → Members class before
    → length after ≡ length before → Put before after first (last + 1) (item_value class.all_but)
    → Members (with_item class (from_to first last)) after
put_members class before after first last m long put =
    record { long = long ∙ m.long; each = λ v h. each v h }
  where
    each : (v : ℕ) → v < value_count → get_or after v 0 ≡ one (class_takes (with_item class (from_to first last)) v)
    each v h = elim (dec_lt v first) [
      | yes l ↦ put.below v l ∙ m.each v h ∙ rw (lt-ltb v first l)
      | no l ↦ elim (dec_lt last v) [
        | yes k ↦ put.above v (omega arith) ∙ m.each v h ∙ rw (le-ltb v first (omega arith), lt-ltb last v k)
        | no k ↦ put.inside v (omega arith) (omega arith)
            ∙ rw (le-ltb v first (omega arith), le-ltb last v (omega arith))
      ]
    ]

-- the numbers are 0 or 1
pub record ZeroOrOne (members : List ℕ) : Type 0 where
  pub long : length members ≡ value_count
  pub each : (v : ℕ) → v < value_count → get_or members v 0 ≤ 1

pub members_binary : {class : Class} {members : List ℕ} → Members class members → ZeroOrOne members
members_binary {class} m =
    record { long = m.long; each = λ v h. omega (arith, m.each v h, one_at_most (class_takes class v)) }

-- n of them from a place on as a number, the first at the low end
abbrev pub bits_of : List ℕ → (at n : ℕ) → ℕ
bits_of members at zero = 0
bits_of members at (suc n) = get_or members at 0 + 2 * bits_of members (at + 1) n

-- eight of them as a byte
abbrev pub eight_of : List ℕ → ℕ → ℕ
eight_of members at = bits_of members at 8

-- those from place i of the eight on, by which the byte is put together from its high end
pub record BitsFrom (members : List ℕ) (at i byte : ℕ) : Type 0 where
  pub read : byte ≡ bits_of members (at + i) (8 - i)
  pub small : byte < 2 ^ (8 - i)

-- with the one before them
pub more_bits : {members : List ℕ} {at i byte : ℕ} → BitsFrom members at i byte → 0 < i → i ≤ 8
    → get_or members (at + (i - 1)) 0 ≤ 1
    → BitsFrom members at (i - 1) (2 * byte + get_or members (at + (i - 1)) 0)
more_bits {at = at} {i} b some few low =
    let one_more : 8 - (i - 1) ≡ suc (8 - i) = omega arith in
    let after : at + (i - 1) + 1 ≡ at + i = omega arith in
    record {
      read = rw (one_more, after) (omega (arith, b.read));
      small = rw (one_more, pow-suc) (omega (arith, b.small));
    }

-- the bits of a class
pub bits_members : {class : Class} {members : List ℕ} → Members class members → (n at : ℕ) → at + n ≤ value_count
    → bits_of members at n ≡ member_bits (class_takes class) at n
bits_members m zero at h = refl
bits_members {class} {members} m (suc n) at h =
    rw (m.each at (omega arith), bits_members m n (at + 1) (omega arith)) refl

-- a byte of the record
pub eight_members : {class : Class} {members : List ℕ} → Members class members → (at : ℕ) → at + 8 ≤ value_count
    → eight_of members at ≡ member_bits (class_takes class) at 8
eight_members m at h = bits_members m 8 at h

-- the first i bytes of the record are written
pub record RecordedUpTo (members record-after : List ℕ) (i : ℕ) : Type 0 where
  pub each : (j : ℕ) → j < i → get_or record-after j 0 ≡ eight_of members (8 * j)

pub recorded_none : (members out : List ℕ) → RecordedUpTo members out 0
recorded_none members out = record { each = λ j h. absurd (omega arith) }

pub recorded_more : {members out : List ℕ} {i : ℕ} → RecordedUpTo members out i → i < length out
    → RecordedUpTo members (set out i (eight_of members (8 * i))) (i + 1)
recorded_more {members} {out} {i} p h =
    record {
      each = λ j l. elim (ℕ_discrete j i) [
        | yes e ↦ at_set out i j (eight_of members (8 * i)) h e ∙ ap (λ (n : ℕ). eight_of members (8 * n)) (sym e)
        | no e ↦ get_or-set_other out i j (eight_of members (8 * i)) 0 e ∙ p.each j (omega arith)
      ];
    }

-- then it is the record of the class
pub recorded_whole : {class : Class} {members record-after : List ℕ} → Members class members
    → length record-after ≡ class_record_size → RecordedUpTo members record-after class_record_size
    → record-after ≡ class_record class
unfolding class_record
recorded_whole {class} {members} {record-after} m long p =
    ext_get_or 0 record-after (class_record class) (long ∙ sym (record_length class))
    (λ j h. p.each j (omega arith) ∙ bits_members m 8 (8 * j) (omega arith)
    ∙ ap (λ (v : ℕ). member_bits (class_takes class) v 8) (omega arith)
    ∙ sym (member_byte (class_takes class) class_record_size 0 j (omega arith)))
