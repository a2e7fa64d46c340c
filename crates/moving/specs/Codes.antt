-- The codes of the states hold the transitions that read a byte: they lead from a state whose code takes the byte to
-- the next in number.
use Rattle.std.specs.Prelude.{ℕ, ◌+◌, ◌*◌, ◌/◌, ◌%◌, ◌≤◌, ◌≡◌, refl, Bool, false, List, length, get_or}
use Rattle.std.proofs.Common.{sym, ap, subst, arith}
use Rattle.std.proofs.Math.ListN.{get_or-eq_default}
use Rattle.language.specs.Automaton.{State, start, accepting, left, right, Reads}
use Rattle.language.specs.Nested.{Nested, leaf, catenation, union, star, below, given, OwnReads}
use Rattle.tree.specs.Layout.{class_record_size}
use Rattle.tree.specs.Leaf.{Leaf, character, class, empty_text, InClass, TakesByte, meaning}
use Rattle.tables.specs.Words.{Bit, width, Own, number}
use Rattle.tables.specs.Plan.{start_code, takes}
use Rattle.tables.specs.Entries.{length_takes}
use Rattle.closing.specs.BitsOfWords.Bits.{bit_zero, Tells, told_no}
use Rattle.closing.specs.BitsOfWords.NodeParts.{one_inside, one_end, two_left, two_right, two_end}
use Rattle.closing.specs.BitsOfWords.Numbers.{number_below}

-- in the list for a node of two parts, where the codes of the parts' states are
module _ (x y : Nested Leaf) where
  pub left_code : (p : State) → Own x p → get_or (takes (catenation x y)) (1 + number x p) 0 ≡ get_or (takes x)
      (number x p) 0
  left_code p o = two_left 0 0 (takes x) (takes y) (length_takes x) (length_takes y) 0 (number x p)
      (number_below x p o)

  -- the code of a state of the second part
  pub right_code : (p : State) → Own y p → get_or (takes (catenation x y)) (1 + width x + number y p) 0
      ≡ get_or (takes y) (number y p) 0
  right_code p o = two_right 0 0 (takes x) (takes y) (length_takes x) (length_takes y) 0 (number y p)
      (number_below y p o)

  -- the accepting state's code
  pub end_code : get_or (takes (catenation x y)) (1 + width x + width y) 0 ≡ 0
  end_code = two_end 0 0 (takes x) (takes y) (length_takes x) (length_takes y) 0

-- and for a node of one part
module _ (x : Nested Leaf) where
  pub inside_code : (p : State) → Own x p → get_or (takes (star x)) (1 + number x p) 0 ≡ get_or (takes x) (number x p) 0
  inside_code p o = one_inside 0 0 (takes x) (length_takes x) 0 (number x p) (number_below x p o)

  -- the accepting state's code
  pub last_code : get_or (takes (star x)) (1 + width x) 0 ≡ 0
  last_code = one_end 0 0 (takes x) (length_takes x) 0

-- the number of a class is below this: a leaf's number stands in 16 bits, and its class's is half of it
abbrev pub class_limit : ℕ
class_limit = 32768

-- a leaf of this code takes the byte b: an even code is that of one character, an odd one that of a class
pub data CodeTakes (classes : List ℕ) (code b : ℕ) : Type 0 where
  of_character : code ≡ 2 * (b + 1) → CodeTakes classes code b
  of_class : code % 2 ≡ 1 → InClass classes (code / 2) b → CodeTakes classes code b

-- no byte lies in a class whose record ends before that byte's bit
pub told_past : (classes : List ℕ) (k b : ℕ) → length classes ≤ class_record_size * k + b / 8
    → Tells (InClass classes k b) false
told_past classes k b past =
    told_no (λ bit. bit_zero (b % 8)
    (subst (λ (v : ℕ). Bit v (b % 8)) (get_or-eq_default classes 0 {n = class_record_size * k + b / 8} past) bit))

module _ {classes : List ℕ} {b : ℕ} where
  -- 0 is the code of no leaf that takes a byte
  pub no_leaf_takes : {code : ℕ} → CodeTakes classes code b → code ≡ 0 → ⊥
  no_leaf_takes (of_character e) none = omega arith
  no_leaf_takes (of_class odd bit) none = omega arith

  -- an even code takes only the byte that it is the code of
  pub even_takes : {code : ℕ} → CodeTakes classes code b → code % 2 ≡ 0 → code ≡ 2 * (b + 1)
  even_takes (of_character e) even = e
  even_takes (of_class odd bit) even = absurd (omega arith)

  -- an odd code takes the bytes of its class
  pub odd_takes : {code : ℕ} → CodeTakes classes code b → code % 2 ≡ 1 → InClass classes (code / 2) b
  odd_takes (of_character e) odd = absurd (omega arith)
  odd_takes (of_class odd' bit) odd = bit

  -- so a comparison tells of an even code
  pub told_even : {code : ℕ} → code % 2 ≡ 0 → (code ≡ 2 * (b + 1) → ⊥) → Tells (CodeTakes classes code b) false
  told_even even other = told_no (λ takes'. other (even_takes takes' even))

  -- and the class of an odd one
  pub told_odd : {code : ℕ} {answer : Bool} → code % 2 ≡ 1 → Tells (InClass classes (code / 2) b) answer
      → Tells (CodeTakes classes code b) answer
  told_odd odd told = record {
    holds = λ e. of_class odd (told.holds e);
    fails = λ e takes'. told.fails e (odd_takes takes' odd);
  }

  -- by its code a leaf takes the bytes that it takes
  pub leaf_taken : (a : Leaf) → TakesByte classes a b → CodeTakes classes (start_code a) b
  leaf_taken (character c) e = of_character (ap (λ (n : ℕ). 2 * (n + 1)) e)
  leaf_taken (class k) bit = of_class (omega arith) (subst (λ (n : ℕ). InClass classes n b) (omega arith) bit)
  leaf_taken empty_text takes' = absurd takes'

  -- and no others
  pub leaf_takes : (a : Leaf) → CodeTakes classes (start_code a) b → TakesByte classes a b
  leaf_takes (character c) takes' = let e = even_takes takes' (omega arith) in omega arith
  leaf_takes (class k) takes' =
      subst (λ (n : ℕ). InClass classes n b) (omega arith) (odd_takes takes' (omega arith))
  leaf_takes empty_text takes' = no_leaf_takes takes' refl

module _ (classes : List ℕ) (b : ℕ) where
  -- a transition that reads b leads from a state whose code takes b to the next in number
  pub record ReadsOn (x : Nested Leaf) (p q : State) : Type 0 where
    pub from_own : Own x p
    pub to_own : Own x q
    pub next : number x q ≡ number x p + 1
    pub code : CodeTakes classes (get_or (takes x) (number x p) 0) b

  -- told with another form of the code
  coded : {code code' : ℕ} → code ≡ code' → CodeTakes classes code b → CodeTakes classes code' b
  coded e = subst (λ (c : ℕ). CodeTakes classes c b) e

  -- so each transition that reads b does
  pub reads_on : (x : Nested Leaf) {p q : State} → OwnReads (meaning classes) b x p q → ReadsOn x p q
  reads_on (leaf a) (Reads.at_leaf taken) =
      record { from_own = tt; to_own = tt; next = refl; code = leaf_taken a taken }
  reads_on (catenation x y) (Reads.catenation_left {p = p} r) = let s = reads_on x r in
      record {
        from_own = s.from_own;
        to_own = s.to_own;
        next = omega (arith, s.next);
        code = coded (sym (left_code x y p s.from_own)) s.code;
      }
  reads_on (catenation x y) (Reads.catenation_right {p = p} r) = let s = reads_on y r in
      record {
        from_own = s.from_own;
        to_own = s.to_own;
        next = omega (arith, s.next);
        code = coded (sym (right_code x y p s.from_own)) s.code;
      }
  reads_on (union x y) (Reads.union_left {p = p} r) = let s = reads_on x r in
      record {
        from_own = s.from_own;
        to_own = s.to_own;
        next = omega (arith, s.next);
        code = coded (sym (left_code x y p s.from_own)) s.code;
      }
  reads_on (union x y) (Reads.union_right {p = p} r) = let s = reads_on y r in
      record {
        from_own = s.from_own;
        to_own = s.to_own;
        next = omega (arith, s.next);
        code = coded (sym (right_code x y p s.from_own)) s.code;
      }
  reads_on (star x) (Reads.star_inside {p = p} r) = let s = reads_on x r in
      record {
        from_own = s.from_own;
        to_own = s.to_own;
        next = omega (arith, s.next);
        code = coded (sym (inside_code x p s.from_own)) s.code;
      }
  reads_on (below x) (Reads.at_leaf e) = absurd e

  -- from a state whose code takes b a transition that reads b leads
  pub reads_from : (x : Nested Leaf) (p : State) → Own x p → CodeTakes classes (get_or (takes x) (number x p) 0) b
      → (q : State) × OwnReads (meaning classes) b x p q
  reads_from (leaf a) start o e = (accepting, Reads.at_leaf {a = given a} (leaf_takes a e))
  reads_from (leaf a) accepting o e = absurd (no_leaf_takes e refl)
  reads_from (catenation x y) start o e = absurd (no_leaf_takes e refl)
  reads_from (catenation x y) accepting o e = absurd (no_leaf_takes e (end_code x y))
  reads_from (catenation x y) (left p) o e =
      let r = reads_from x p o (coded (left_code x y p o) e) in (left r.0, Reads.catenation_left r.1)
  reads_from (catenation x y) (right p) o e =
      let r = reads_from y p o (coded (right_code x y p o) e) in (right r.0, Reads.catenation_right r.1)
  reads_from (union x y) start o e = absurd (no_leaf_takes e refl)
  reads_from (union x y) accepting o e = absurd (no_leaf_takes e (end_code x y))
  reads_from (union x y) (left p) o e =
      let r = reads_from x p o (coded (left_code x y p o) e) in (left r.0, Reads.union_left r.1)
  reads_from (union x y) (right p) o e =
      let r = reads_from y p o (coded (right_code x y p o) e) in (right r.0, Reads.union_right r.1)
  reads_from (star x) start o e = absurd (no_leaf_takes e refl)
  reads_from (star x) accepting o e = absurd (no_leaf_takes e (last_code x))
  reads_from (star x) (left p) o e =
      let r = reads_from x p o (coded (inside_code x p o) e) in (left r.0, Reads.star_inside r.1)
  reads_from (below x) start o e = absurd (no_leaf_takes e refl)
  reads_from (below x) accepting o e = absurd (no_leaf_takes e refl)
  reads_from (leaf a) (left p) o e = elim o [ ]
  reads_from (leaf a) (right p) o e = elim o [ ]
  reads_from (star x) (right p) o e = elim o [ ]
  reads_from (below x) (left p) o e = elim o [ ]
  reads_from (below x) (right p) o e = elim o [ ]
