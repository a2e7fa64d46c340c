-- The bits of a class record: bit v % 8 of byte v / 8 tells whether the class takes the value v.
use Rattle.std.specs.Prelude.{ℕ, zero, suc, ◌+◌, ◌*◌, ◌/◌, ◌%◌, ◌^◌, ◌≤◌, ◌<◌, ◌≡◌, refl, Bool, true, false, List, [], ◌∷◌, ◌++◌, length, get_or}
use Rattle.std.proofs.Common.{ap, sym, ◌∙◌, append_assoc, arith, length-append, shr-shr}
use Rattle.tree.specs.Layout.{class_record_size}
use Rattle.tree.specs.Cut.{one}
use Rattle.classes.specs.Class.{Class, class_takes}
use Rattle.classes.specs.ClassRecord.{member_bits, member_bytes, class_record, encode_classes}

-- a yes is 1 and a no is 0
pub one_at_most : (b : Bool) → one b ≤ 1
one_at_most true = omega arith
one_at_most false = omega arith

-- half of the bits as a number holds the values after the first
member_bits_half : (takes : ℕ → Bool) (v n : ℕ) → member_bits takes v (suc n) / 2 ≡ member_bits takes (v + 1) n
member_bits_half takes v n = omega (arith, one_at_most (takes v))

-- bit j + 1 is bit j of the half
half_bit : (w j : ℕ) → w / 2 ^ suc j ≡ w / 2 / 2 ^ j
half_bit w j = ap (λ (n : ℕ). w / 2 ^ n) (omega arith) ∙ sym (shr-shr w 1 j)

-- bit j of these bits as a number is the value v + j
member_bit : (takes : ℕ → Bool) (n v j : ℕ) → j < n → member_bits takes v n / 2 ^ j % 2 ≡ one (takes (v + j))
member_bit takes zero v j h = absurd (omega arith)
member_bit takes (suc n) v zero h =
    let low : member_bits takes v (suc n) / 2 ^ 0 % 2 ≡ one (takes v) = omega (arith, one_at_most (takes v)) in
    low ∙ ap (λ (m : ℕ). one (takes m)) (omega arith)
member_bit takes (suc n) v (suc j) h =
    ap (λ (w : ℕ). w % 2) (half_bit (member_bits takes v (suc n)) j
    ∙ ap (λ (w : ℕ). w / 2 ^ j) (member_bits_half takes v n))
    ∙ member_bit takes n (v + 1) j (omega arith) ∙ ap (λ (m : ℕ). one (takes m)) (omega arith)

-- byte i holds eight values from 8 i on
pub member_byte : (takes : ℕ → Bool) (n v i : ℕ) → i < n
    → get_or (member_bytes takes v n) i 0 ≡ member_bits takes (v + 8 * i) 8
member_byte takes zero v i h = absurd (omega arith)
member_byte takes (suc n) v zero h = ap (λ (m : ℕ). member_bits takes m 8) (omega arith)
member_byte takes (suc n) v (suc i) h =
    member_byte takes n (v + 8) i (omega arith) ∙ ap (λ (m : ℕ). member_bits takes m 8) (omega arith)

-- the bit of a value
pub record_bit : (class : Class) (v : ℕ) → v < 256
    → get_or (class_record class) (v / 8) 0 / 2 ^ (v % 8) % 2 ≡ one (class_takes class v)
unfolding class_record
record_bit class v h =
    ap (λ (w : ℕ). w / 2 ^ (v % 8) % 2) (member_byte (class_takes class) class_record_size 0 (v / 8) (omega arith))
    ∙ member_bit (class_takes class) 8 (0 + 8 * (v / 8)) (v % 8) (omega arith)
    ∙ ap (λ (m : ℕ). one (class_takes class m)) (omega arith)

-- how long they are
member_bytes_length : (takes : ℕ → Bool) (n v : ℕ) → length (member_bytes takes v n) ≡ n
member_bytes_length takes zero v = refl
member_bytes_length takes (suc n) v = ap suc (member_bytes_length takes n (v + 8))

pub record_length : (class : Class) → length (class_record class) ≡ class_record_size
unfolding class_record
record_length class = member_bytes_length (class_takes class) class_record_size 0

pub encode_classes_length : (classes : List Class)
    → length (encode_classes classes) ≡ class_record_size * length classes
encode_classes_length [] = refl
encode_classes_length (class ∷ classes) =
    length-append (class_record class) (encode_classes classes)
    ∙ omega (arith, record_length class, encode_classes_length classes)

-- of two lists of classes, one after the other
pub encode_classes_append : (xs ys : List Class) → encode_classes (xs ++ ys) ≡ encode_classes xs ++ encode_classes ys
encode_classes_append [] ys = refl
encode_classes_append (class ∷ xs) ys =
    ap (λ (l : List ℕ). class_record class ++ l) (encode_classes_append xs ys)
    ∙ sym (append_assoc (class_record class) (encode_classes xs) (encode_classes ys))
