-- The records mean what was written: with the class records of an expression, the tree of its records has the language
-- of its written tree. A text is of bytes: no value is above 255.
use Rattle.std.specs.Prelude.{ℕ, ◌+◌, ◌*◌, ◌/◌, ◌%◌, ◌^◌, ◌<◌, ◌≡◌, refl, Bool, true, false, ◌↔◌, List, [], ◌∷◌, ◌++◌, length, get_or}
use Rattle.std.proofs.Common.{ap, sym, ◌∙◌, subst, inl, inr, append_assoc, arith, length-append, get_or-append-add}
use Rattle.std.proofs.Math.Logic.Iff
use Rattle.std.proofs.Math.ListN.{get_or-append}
use Rattle.language.specs.Tree.{Tree, leaf, catenation, union, star}
use Rattle.language.specs.Language.{Language, Repeated, none, more}
use Rattle.language.specs.SignedTree.{SignedTree, WellCounted}
use Rattle.language.proofs.SameTexts.{same_texts}
use Rattle.tree.specs.Leaf.{meaning, Matches}
use Rattle.tree.specs.Layout.{class_record_size}
use Rattle.tree.specs.Cut.{one}
use Rattle.classes.specs.Class.{Class, class_takes}
use Rattle.operands.specs.Scanner.{Atom, literal, one_of, no_text}
use Rattle.checker.specs.Drawn.{classes_of, classes_in, recorded, recorded_from, written_meaning, MatchesWritten, MatchesSigns}
use Rattle.checker.specs.Expanded.{expansion}
use Rattle.classes.specs.ClassRecord.{class_record, encode_classes}
use Rattle.classes.specs.ClassRecordLaws.{record_bit, record_length}
use Rattle.checker.specs.SameLanguage.{OfBytes}

-- so are those of its parts
bytes_split : (u v : List ℕ) → OfBytes (u ++ v) → OfBytes u × OfBytes v
bytes_split [] v h = (tt, h)
bytes_split (b ∷ u) v h = let (p, q) = bytes_split u v h.1 in ((h.0, p), q)

-- record k of a class buffer is that of a class
abbrev RecordHere : List ℕ → ℕ → Class → Type 0
RecordHere buffer k class = (b : ℕ) → b < 256
    → get_or buffer (class_record_size * k + b / 8) 0 / 2 ^ (b % 8) % 2 ≡ one (class_takes class b)

-- the records from k on are those of some classes
abbrev RecordsHere : List ℕ → ℕ → List Class → Type 0
RecordsHere buffer k [] = Unit {0}
RecordsHere buffer k (class ∷ classes) = RecordHere buffer k class × RecordsHere buffer (k + 1) classes

-- in two parts
records_split : (buffer : List ℕ) (xs ys : List Class) (k : ℕ) → RecordsHere buffer k (xs ++ ys)
    → RecordsHere buffer k xs × RecordsHere buffer (k + length xs) ys
records_split buffer [] ys k h = (tt, rw (plus_zero k) h)
  where
    plus_zero : (k : ℕ) → k + 0 ≡ k
    plus_zero k = omega arith
records_split buffer (class ∷ xs) ys k h =
    let (p, q) = records_split buffer xs ys (k + 1) h.1 in
    let further : k + 1 + length xs ≡ k + length (class ∷ xs) = omega arith in
    ((h.0, p), subst (λ (n : ℕ). RecordsHere buffer n ys) further q)

-- the class records of an expression are its classes'
records_encoded : (classes : List Class) (front rest : List ℕ) (k : ℕ) → length front ≡ class_record_size * k
    → RecordsHere (front ++ (encode_classes classes ++ rest)) k classes
records_encoded [] front rest k e = tt
records_encoded (class ∷ classes) front rest k e = (
  here,
  subst (λ (l : List ℕ). RecordsHere l (k + 1) classes) moved
      (records_encoded classes (front ++ class_record class) rest (k + 1)
      (length-append front (class_record class) ∙ omega (arith, e, record_length class))),
)
  where
    all_of : List ℕ
    all_of = front ++ (class_record class ++ encode_classes classes ++ rest)

    -- the first record stands right behind the front
    byte_here : (i : ℕ) → i < class_record_size
        → get_or all_of (class_record_size * k + i) 0 ≡ get_or (class_record class) i 0
    byte_here i h =
        ap (λ (n : ℕ). get_or all_of (n + i) 0) (sym e)
        ∙ get_or-append-add front (class_record class ++ encode_classes classes ++ rest) i 0
        ∙ ap (λ (l : List ℕ). get_or l i 0) (append_assoc (class_record class) (encode_classes classes) rest)
        ∙ get_or-append (class_record class) (encode_classes classes ++ rest) 0 i (omega (
          arith,
          record_length class,
        ))

    here : RecordHere all_of k class
    here b h = ap (λ (w : ℕ). w / 2 ^ (b % 8) % 2) (byte_here (b / 8) (omega arith)) ∙ record_bit class b h

    -- the others behind it
    moved : front ++ class_record class ++ (encode_classes classes ++ rest) ≡ all_of
    moved = simp append_assoc

-- a yes is told by a bit that is 1
one_exactly : (b : Bool) (n : ℕ) → n ≡ one b → (n ≡ 1) ↔ (b ≡ true)
one_exactly true n e = (λ h. refl, λ h. e)
one_exactly false n e = (λ h. absurd (omega arith), λ h. let z : ◌≡◌ {A = ℕ} 0 1 = cc in absurd (omega arith))

-- texts of one language are texts of another where they are texts of bytes
repeated : (L M : List ℕ → Type 0) → ((u : List ℕ) → OfBytes u → L u → M u) → {w : List ℕ} → OfBytes w
    → Repeated L w → Repeated M w
repeated L M f h none = none
repeated L M f h (more {u} {v} l r) =
    let (p, q) = bytes_split u v h in more (f u p l) (repeated L M f q r)

module _ (buffer : List ℕ) where
  -- by induction on the tree, with the records of its classes from `next` on
  texts_to : (t : Tree Atom) (next : ℕ) → RecordsHere buffer next (classes_of t) → (w : List ℕ) → OfBytes w
      → Language (meaning buffer) (recorded_from t next) w → Language written_meaning t w
  texts_to (leaf (literal c)) next h w bytes (inl l) = inl l
  texts_to (leaf (literal c)) next h w bytes (inr (e, l)) = let z : ◌≡◌ {A = ℕ} 0 1 = cc in absurd (omega arith)
  texts_to (leaf (one_of class)) next h w bytes (inl (b, e, l)) =
      let byte : b < 256 = (rw e at bytes).0 in
      inl (b, e, (one_exactly (class_takes class b) _ (h.0 b byte)).0 l)
  texts_to (leaf (one_of class)) next h w bytes (inr (e, l)) =
      let z : ◌≡◌ {A = ℕ} 0 1 = cc in absurd (omega arith)
  texts_to (leaf no_text) next h w bytes (inl (b, e, l)) = absurd l
  texts_to (leaf no_text) next h w bytes (inr (e, l)) = inr (e, tt)
  texts_to (catenation s t) next h w bytes (u, v, e, l, r) =
      let (p, q) = records_split buffer (classes_of s) (classes_of t) next h in
      let (first, second) = bytes_split u v (rw e at bytes) in
      (u, v, e, texts_to s next p u first l, texts_to t (next + classes_in s) q v second r)
  texts_to (union s t) next h w bytes (inl l) =
      inl (texts_to s next (records_split buffer (classes_of s) (classes_of t) next h).0 w bytes l)
  texts_to (union s t) next h w bytes (inr r) =
      inr (texts_to t (next + classes_in s) (records_split buffer (classes_of s) (classes_of t) next h).1 w bytes r)
  texts_to (star s) next h w bytes l = repeated _ _ (texts_to s next h) bytes l

  texts_from : (t : Tree Atom) (next : ℕ) → RecordsHere buffer next (classes_of t) → (w : List ℕ) → OfBytes w
      → Language written_meaning t w → Language (meaning buffer) (recorded_from t next) w
  texts_from (leaf (literal c)) next h w bytes (inl l) = inl l
  texts_from (leaf (literal c)) next h w bytes (inr (e, l)) = absurd l
  texts_from (leaf (one_of class)) next h w bytes (inl (b, e, l)) =
      let byte : b < 256 = (rw e at bytes).0 in
      inl (b, e, (one_exactly (class_takes class b) _ (h.0 b byte)).1 l)
  texts_from (leaf (one_of class)) next h w bytes (inr (e, l)) = absurd l
  texts_from (leaf no_text) next h w bytes (inl (b, e, l)) = absurd l
  texts_from (leaf no_text) next h w bytes (inr (e, l)) = inr (e, refl)
  texts_from (catenation s t) next h w bytes (u, v, e, l, r) =
      let (p, q) = records_split buffer (classes_of s) (classes_of t) next h in
      let (first, second) = bytes_split u v (rw e at bytes) in
      (u, v, e, texts_from s next p u first l, texts_from t (next + classes_in s) q v second r)
  texts_from (union s t) next h w bytes (inl l) =
      inl (texts_from s next (records_split buffer (classes_of s) (classes_of t) next h).0 w bytes l)
  texts_from (union s t) next h w bytes (inr r) =
      inr (texts_from t (next + classes_in s) (records_split buffer (classes_of s) (classes_of t) next h).1 w bytes r)
  texts_from (star s) next h w bytes l = repeated _ _ (texts_from s next h) bytes l

-- the records of an expression, with its class records and whatever stands past them, have the language that it has as
-- it is written
pub same_language : (t : Tree Atom) (rest w : List ℕ) → OfBytes w
    → Matches (encode_classes (classes_of t) ++ rest) (recorded t) w ↔ MatchesWritten t w
same_language t rest w bytes =
    let held = records_encoded (classes_of t) [] rest 0 refl in
    (texts_to _ t 0 held w bytes, texts_from _ t 0 held w bytes)

-- the tree that the signs stand for has their language
pub signs_language : (s : SignedTree Atom) → WellCounted s → (w : List ℕ)
    → MatchesSigns s w ↔ MatchesWritten (expansion s) w
signs_language s well w = same_texts written_meaning no_text tt (λ b takes. takes) s well w

-- so the records of an expression have the language of its signs, as they are written
pub same_as_signs : (s : SignedTree Atom) → WellCounted s → (rest w : List ℕ) → OfBytes w
    → Matches (encode_classes (classes_of (expansion s)) ++ rest) (recorded (expansion s)) w ↔ MatchesSigns s w
same_as_signs s well rest w bytes =
    Iff.trans (same_language (expansion s) rest w bytes) (Iff.symm (signs_language s well w))
