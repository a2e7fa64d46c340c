-- `storing::class_records::store_class` meets its contract: the class's record is written into its part of the buffer.
use Prim.Native.Nat.{ℕ, ◌+◌, ◌*◌, ◌-◌, ◌≤◌}
use mathlib.Core.Path.{◌≡◌, ◌∙◌}
use mathlib.Core.List.{List, ◌++◌}
use native.Mathlib.Omega.{arith}
use lib.ListN.{length, take, drop, length-drop}
use lib.Seq.{length-take-le}
use Rattle.classes.specs.Members.{recorded_whole}
use Rattle.storing.proofs.class_records.store_class.Goals as goal

-- the part that is lent has 32 bytes
part_size : (n : ℕ) → n + 32 - n ≡ 32
part_size n = omega arith

part_length : (n : ℕ) (list : List ℕ) → n + 32 ≤ length list → length (take (n + 32 - n) (drop n list)) ≡ 32
part_length n list h = rw (part_size n) (length-take-le 32 (drop n list) (omega (arith, length-drop n list)))

-- what comes back of it
part_stored : (n : ℕ) (list part one : List ℕ) → part ≡ one
    → take n list ++ (part ++ drop (n + 32 - n) (drop n list)) ≡ take n list ++ (one ++ drop 32 (drop n list))
part_stored n list part one e = rw (e, part_size n)

pub returns : goal.returns
returns c =
    part_stored (32 * c.args.k) c.args.classes.now c.write_class_record.new.out _
    (recorded_whole c.class_values.ensures
    (c.write_class_record.auto.out ∙ part_length (32 * c.args.k) c.args.classes.now c.requires.room)
    c.write_class_record.ensures)
