-- The record of a class, and the class records of an expression.
use Rattle.std.specs.Prelude.{ℕ, zero, suc, ◌+◌, ◌*◌, Bool, List, [], ◌∷◌, ◌++◌}
use Rattle.tree.specs.Layout.{class_record_size}
use Rattle.tree.specs.Cut.{one}
use Rattle.classes.specs.Class.{Class, class_takes}

-- n values from v on as bits of a number, the first at the low end
abbrev pub member_bits : (ℕ → Bool) → (v n : ℕ) → ℕ
member_bits takes v zero = 0
member_bits takes v (suc n) = one (takes v) + 2 * member_bits takes (v + 1) n

-- n bytes that hold eight values each, from v on
abbrev pub member_bytes : (ℕ → Bool) → (v n : ℕ) → List ℕ
member_bytes takes v zero = []
member_bytes takes v (suc n) = member_bits takes v 8 ∷ member_bytes takes (v + 8) n

-- the record of a class: 32 bytes, value v at bit v % 8 of byte v / 8
unfoldable pub class_record : Class → List ℕ
class_record class = member_bytes (class_takes class) 0 class_record_size

-- the class records, one after the other
abbrev pub encode_classes : List Class → List ℕ
encode_classes [] = []
encode_classes (class ∷ classes) = class_record class ++ encode_classes classes
