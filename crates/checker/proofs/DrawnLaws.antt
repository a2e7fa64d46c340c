-- What is drawn from a written tree: its classes are counted and numbered, and a drawn outcome tells the scanner's.
use Rattle.std.specs.Prelude.{ℕ, zero, suc, ◌+◌, ◌<◌, ◌≡◌, refl, List, [], ◌∷◌, ◌++◌, length, get_or}
use Rattle.std.proofs.Common.{ap, sym, ◌∙◌, arith, length-append}
use Rattle.language.specs.Tree.{Tree, leaf, catenation, union, star}
use Rattle.tree.specs.Records.{class_numbers, class_count, Ranked}
use Rattle.operands.specs.Scanner.{Atom, literal, one_of, no_text}
use Rattle.checker.specs.Drawn.{classes_of, classes_in, recorded, recorded_from}

-- the numbers from n on, so many of them
abbrev upwards : ℕ → ℕ → List ℕ
upwards n zero = []
upwards n (suc count) = n ∷ upwards (n + 1) count

upwards_append : (n j k : ℕ) → upwards n (j + k) ≡ upwards n j ++ upwards (n + j) k
upwards_append n zero k = rw (zero_plus k, plus_zero n)
  where
    zero_plus : (k : ℕ) → 0 + k ≡ k
    zero_plus k = omega arith

    plus_zero : (n : ℕ) → n + 0 ≡ n
    plus_zero n = omega arith
upwards_append n (suc j) k =
    ap (upwards n) (suc_plus j k)
    ∙ ap (λ (l : List ℕ). n ∷ l) (upwards_append (n + 1) j k ∙ ap (λ (m : ℕ). upwards (n + 1) j ++ upwards m k)
    (omega arith))
  where
    suc_plus : (j k : ℕ) → suc j + k ≡ suc (j + k)
    suc_plus j k = omega arith

upwards_at : (count n j : ℕ) → j < count → get_or (upwards n count) j 0 ≡ n + j
upwards_at zero n j h = absurd (omega arith)
upwards_at (suc count) n zero h = omega arith
upwards_at (suc count) n (suc j) h = upwards_at count (n + 1) j (omega arith) ∙ omega arith

-- two runs of numbers, one after the other
numbers_joined : (left right : List ℕ) (s t : Tree Atom) (next : ℕ) → left ≡ upwards next (classes_in s)
    → right ≡ upwards (next + classes_in s) (classes_in t)
    → left ++ right ≡ upwards next (length (classes_of s ++ classes_of t))
numbers_joined left right s t next e f =
    rw (e, f, length-append (classes_of s) (classes_of t)) (sym (upwards_append next (classes_in s) (classes_in t)))

-- the class leaves of the records' tree are numbered from `next` on
numbers_recorded : (t : Tree Atom) (next : ℕ) → class_numbers (recorded_from t next) ≡ upwards next (classes_in t)
numbers_recorded (leaf (literal b)) next = refl
numbers_recorded (leaf (one_of class)) next = refl
numbers_recorded (leaf no_text) next = refl
numbers_recorded (catenation s t) next =
    numbers_joined _ _ s t next (numbers_recorded s next) (numbers_recorded t (next + classes_in s))
numbers_recorded (union s t) next =
    numbers_joined _ _ s t next (numbers_recorded s next) (numbers_recorded t (next + classes_in s))
numbers_recorded (star s) next = numbers_recorded s next

upwards_length : (count n : ℕ) → length (upwards n count) ≡ count
upwards_length zero n = refl
upwards_length (suc count) n = ap suc (upwards_length count (n + 1))

-- there are as many class leaves as classes
pub class_count_recorded : (t : Tree Atom) → class_count (recorded t) ≡ classes_in t
class_count_recorded t = ap length (numbers_recorded t 0) ∙ upwards_length (classes_in t) 0

-- each is numbered by its rank
pub ranked_recorded : (t : Tree Atom) → Ranked (recorded t)
ranked_recorded t =
    record {
      each = λ j h. ap (λ (l : List ℕ). get_or l j 0) (numbers_recorded t 0)
          ∙ upwards_at (classes_in t) 0 j (omega (arith, class_count_recorded t)) ∙ omega arith;
    }
