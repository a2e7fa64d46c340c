-- What leads on from a class or a dot in the second syntax, and where neither stands.
use Rattle.std.specs.Prelude.{ℕ, ◌+◌, ◌<◌, ◌≡◌, refl, Bool, true, false, cond, List, length, drop, get_or, eqb}
use Rattle.std.proofs.Common.{ne_eqb}
use Rattle.language.specs.SignedTree.{leaf}
use Rattle.tree.specs.Leaf.{Leaf}
use Rattle.operands.specs.Bytes.{
  first as first-syntax,
  second,
  Sign,
  opening,
  closing,
  bar,
  asterisk,
  backslash,
  plus,
  question,
  brace,
  plain,
  sign_of,
}
use Rattle.operands.specs.Grammar.{starred}
use Rattle.operands.specs.Surroundings.{Leads, leads_dot, leads_class, class_begins}
use Rattle.classes.specs.ClassAt.{run_at, class_at}
use Rattle.operands.specs.LeavesPlaced.{signs_at}
use Rattle.classes.specs.ClassItems.{ClassEnded, found_at, dot_at}

-- a class that was found is a leaf of the second syntax, in all surroundings
pub class_leads : {bytes : List ℕ} {at next : ℕ} (depth : ℕ) → at < length bytes → get_or bytes at 0 ≡ 91
    → ClassEnded bytes at next (run_at bytes at)
    → Leads second starred bytes depth at (signs_at bytes (leaf at (Leaf.class at))) next
class_leads {bytes} {at} {next} depth h e r =
    let same : class_at bytes at ≡ r.class = found_at bytes at r.class (drop next bytes) next e r.finds in
    rw same (leads_class bytes depth at h e r.finds)

-- so is the dot
pub dot_leads : (bytes : List ℕ) (depth at : ℕ) → at < length bytes → get_or bytes at 0 ≡ 46
    → Leads second starred bytes depth at (signs_at bytes (leaf at (Leaf.class at))) (at + 1)
dot_leads bytes depth at h e = rw (dot_at bytes at e) (leads_dot bytes depth at h e)

-- where neither of two signs is one that only the second syntax has, the one picked is none
picked : (test : Bool) (s r : Sign) → class_begins s ≡ false → class_begins r ≡ false
    → class_begins (cond test s r) ≡ false
picked true s r e f = e
picked false s r e f = f

-- so what follows the tests for the signs of both syntaxes decides
common : (b : ℕ) (r : Sign) → class_begins r ≡ false
    → class_begins
    (cond (eqb b 40) opening
    (cond (eqb b 41) closing (cond (eqb b 124) bar (cond (eqb b 42) asterisk (cond (eqb b 92) backslash r)))))
    ≡ false
common b r e =
    picked (eqb b 40) opening _ refl
    (picked (eqb b 41) closing _ refl
    (picked (eqb b 124) bar _ refl
    (picked (eqb b 42) asterisk _ refl
    (picked (eqb b 92) backslash r refl e))))

-- the first syntax has none of them
pub first_begins_none : (b : ℕ) → class_begins (sign_of first-syntax b) ≡ false
first_begins_none b = common b plain refl

-- neither has another byte in the second: a `+`, `?` or `{` begins nothing
pub no_class_begins : (b : ℕ) → (b ≡ 46 → ⊥) → (b ≡ 91 → ⊥) → (b ≡ 93 → ⊥) → (b ≡ 125 → ⊥)
    → class_begins (sign_of second b) ≡ false
no_class_begins b no-dot no-bracket no_end no-end-brace =
    rw (ne_eqb b 46 no-dot, ne_eqb b 91 no-bracket, ne_eqb b 93 no_end, ne_eqb b 125 no-end-brace)
    (common b _
    (picked (eqb b 43) plus _ refl (picked (eqb b 63) question _ refl (picked (eqb b 123) brace plain refl refl))))
