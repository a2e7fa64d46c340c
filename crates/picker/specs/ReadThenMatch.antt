-- From an expression to an answer, in one line each: which texts match an expression that was read, and what search
-- finds by it, in either syntax.
use Rattle.std.specs.Prelude.{ℕ, zero, suc, ◌*◌, ◌≤◌, ◌≡◌, Bool, true, false, ◌↔◌, List, [], ◌∷◌, ◌++◌, length, take, drop}
use Rattle.std.proofs.Common.{arith, subst, ap, sym, ◌∙◌, length-append}
use Rattle.std.proofs.Math.Logic.Iff
use Rattle.language.specs.Tree.{Tree}
use Rattle.language.specs.SignedTree.{SignedTree}
use Rattle.tree.specs.Leaf.{Leaf, Matches}
use Rattle.tree.specs.Layout.{record_size, class_record_size}
use Rattle.tree.specs.Records.{Good}
use Rattle.lists.specs.Readback.{good_unique}
use Rattle.tree.specs.Limits.{longest_text}
use Rattle.operands.specs.Bytes.{Syntax, first, second}
use Rattle.operands.specs.Scanner.{Atom}
use Rattle.checker.specs.Expanded.{expansion, expanded}
use Rattle.checker.specs.ExpandedLaws.{expanded_exactly}
use Rattle.operands.specs.Grammar.{Written}
use Rattle.operands.specs.Agree.{written_counted}
use Rattle.operands.proofs.Agree.{grammar_unique}
use Rattle.checker.specs.Drawn.{recorded, classes_of, classes_in, MatchesSigns}
use Rattle.classes.specs.ClassRecord.{encode_classes}
use Rattle.reader.specs.Answer.{read_numbers, read_as, read_answered, records_after}
use Rattle.checker.specs.Checked.{counted_numbers, counted_as}
use Rattle.reader.specs.SecondAnswer.{second_answered, second_records_after, second_classes_after}
use Rattle.classes.specs.ClassRecordLaws.{encode_classes_length}
use Rattle.checker.specs.DrawnLaws.{first_has_no_class, drawn_tree}
use Rattle.checker.proofs.DrawnLaws.{class_count_recorded}
use Rattle.checker.specs.SameLanguage.{OfBytes}
use Rattle.checker.proofs.SameLanguage.{same_as_signs}
use Rattle.reader.specs.Kept.{kept}
use Rattle.reader.specs.SecondKept.{SecondKept}
use Rattle.reader.proofs.SecondKept.{second_kept}
use Rattle.marks.specs.Promise.{Classed}
use Rattle.matching.specs.Found.{PartInLanguage, Found, NothingFound}
use Rattle.finder.specs.Answer.{answering_match, finding}
use Rattle.finder.specs.Promise.{OfGood, MatchAnswers, SearchAnswers}
use Rattle.finder.specs.Refusals.{match_exactly, search_found_exactly, search_nothing_exactly}

-- the text lies in the language of the expression, said of its signs as they are written
abbrev pub InExpression : Syntax → List ℕ → List ℕ → Type 0
InExpression syntax bytes text = (s : SignedTree Atom) × Written syntax bytes s × MatchesSigns s text

-- `read` answered that the expression's records were written
pub record Accepted (bytes before after : List ℕ) (records pieces : ℕ) : Type 0 where
  pub answer : read_numbers (read_as records pieces) ≡ read_answered bytes (length before)
  pub buffer : after ≡ records_after bytes before

-- `read_second` answered that the expression's records and classes were written
pub record AcceptedSecond (bytes before classes-before after classes-after : List ℕ) (records pieces classes : ℕ) :
    Type 0 where
  pub answer : counted_numbers (counted_as records pieces classes)
      ≡ second_answered bytes (length before) (length classes-before)
  pub buffer : after ≡ second_records_after bytes before classes-before
  pub class_buffer : classes-after ≡ second_classes_after bytes before classes-before

-- a list and class records to lend with it, as reading an expression leaves them: the list is good, there are class
-- records enough, and its leaves mean by these what was written
pub record Usable (syntax : Syntax) (bytes list classes : List ℕ) : Type 0 where
  pub signs : SignedTree Atom
  pub written : Written syntax bytes signs
  pub good : Good list (recorded (expansion signs))
  pub classed : Classed classes (recorded (expansion signs))
  pub means : (w : List ℕ) → OfBytes w → Matches classes (recorded (expansion signs)) w ↔ MatchesSigns signs w

-- what `read` leaves is usable with any class records, with none too: the first syntax has no classes
pub first_usable : {bytes before after : List ℕ} {records pieces : ℕ} → Accepted bytes before after records pieces
    → (lent : List ℕ) → Usable first bytes (take (record_size * records) after) lent
first_usable {bytes} {before} {after} {records} {pieces} accepted lent =
    let held = kept bytes before after records pieces accepted.answer accepted.buffer in
    let (t, scans, same) = drawn_tree (expanded first bytes) held.read held.scans in
    let spelled = ((expanded_exactly first bytes t).0 scans).1 in
    let s = spelled.signs in
    let classless : classes_of (expansion s) ≡ [] = ap classes_of (sym spelled.stands)
    ∙ first_has_no_class spelled in
    let none : classes_in (expansion s) ≡ 0 = ap length classless in
    record {
      signs = s;
      written = spelled.spelled;
      good = rw (same ∙ ap recorded spelled.stands) at held.good;
      classed = omega (arith, class_count_recorded (expansion s), none);
      means = λ w bytes-only.
          rw classless at (same_as_signs s (written_counted spelled.spelled) lent w bytes-only);
    }

-- a list and class records that are those of an expression of the second syntax
kept_usable : {bytes before classes-before after classes-after : List ℕ} {records pieces classes : ℕ}
    → SecondKept bytes before classes-before after classes-after records pieces classes
    → Usable second bytes (take (record_size * records) after) classes-after
kept_usable {bytes} {before} {classes-before} {classes-after = classes-after} {classes = classes} held =
    let spelled = ((expanded_exactly second bytes held.read).0 held.scans).1 in
    let s = spelled.signs in
    let stored : List ℕ = encode_classes (classes_of (expansion s)) in
    let rest : List ℕ = drop (class_record_size * classes) classes-before in
    let after : classes-after ≡ stored ++ rest = held.class_bytes
    ∙ ap (λ (t : Tree Atom). encode_classes (classes_of t) ++ rest) spelled.stands in
    record {
      signs = s;
      written = spelled.spelled;
      good = rw spelled.stands at held.good;
      classed = omega (
        arith,
        ap length after,
        length-append stored rest,
        class_count_recorded (expansion s),
        encode_classes_length (classes_of (expansion s)),
        held.classed,
      );
      means = λ w bytes-only. rw after (same_as_signs s (written_counted spelled.spelled) rest w bytes-only);
    }

-- what `read_second` leaves is usable with the class buffer as it leaves that
pub second_usable : {bytes before classes-before after classes-after : List ℕ} {records pieces classes : ℕ}
    → AcceptedSecond bytes before classes-before after classes-after records pieces classes
    → Usable second bytes (take (record_size * records) after) classes-after
second_usable accepted =
    kept_usable (second_kept _ _ _ _ _ _ _ _ accepted.answer accepted.buffer accepted.class_buffer)

-- parts of a text of bytes are texts of bytes
take_bytes : (n : ℕ) (w : List ℕ) → OfBytes w → OfBytes (take n w)
take_bytes zero w h = tt
take_bytes (suc n) [] h = tt
take_bytes (suc n) (b ∷ w) h = (h.0, take_bytes n w h.1)

drop_bytes : (n : ℕ) (w : List ℕ) → OfBytes w → OfBytes (drop n w)
drop_bytes zero w h = h
drop_bytes (suc n) [] h = tt
drop_bytes (suc n) (b ∷ w) h = drop_bytes n w h.1

module _ {L M : List ℕ → Type 0} (text : List ℕ) (of-bytes : OfBytes text) where
  -- a part in a language lies in a larger one
  part_within : ((w : List ℕ) → OfBytes w → L w → M w) → (s e : ℕ) → PartInLanguage L text s e
      → PartInLanguage M text s e
  part_within within s e p =
      let bytes = drop_bytes s (take e text) (take_bytes e text of-bytes) in
      record { ordered = p.ordered; inside = p.inside; belongs = within _ bytes p.belongs }

-- in two languages that are the same, search finds the same
found_same : {L M : List ℕ → Type 0} (text : List ℕ) → OfBytes text → ((w : List ℕ) → OfBytes w → L w ↔ M w)
    → (s e : ℕ) → Found L text s e → Found M text s e
found_same text bytes same s e f =
    record {
      here = part_within text bytes (λ w h. (same w h).0) s e f.here;
      earliest = λ i j h p. f.earliest i j h (part_within text bytes (λ w h. (same w h).1) i j p);
      latest = λ j h p. f.latest j h (part_within text bytes (λ w h. (same w h).1) s j p);
    }

module _ {syntax : Syntax} {bytes list classes : List ℕ} (usable : Usable syntax bytes list classes) where
  -- the language of the list's tree, by the class records, is that of the expression
  as_written : (text : List ℕ) → OfBytes text → Matches classes (recorded (expansion usable.signs)) text
      ↔ InExpression syntax bytes text
  as_written text of-bytes = (
    λ matches. (usable.signs, usable.written, (usable.means text of-bytes).0 matches),
    λ (s, reads, matches).
        (usable.means text of-bytes).1
        (subst (λ (t : SignedTree Atom). MatchesSigns t text) (grammar_unique reads usable.written) matches),
  )

  -- what is answered of the list is answered of its tree
  of_read : (text : List ℕ) (P : Tree Leaf → Type 0) → OfGood list classes text P
      ↔ ((length text ≤ longest_text) × P (recorded (expansion usable.signs)))
  of_read text P = (
    λ o. (
      o.short,
      subst P (good_unique list o.t (recorded (expansion usable.signs)) o.good usable.good) o.holds,
    ),
    λ (short, holds).
        record {
          t = recorded (expansion usable.signs);
          good = usable.good;
          classed = usable.classed;
          short = short;
          holds = holds;
        },
  )

  module _ (text : List ℕ) (of-bytes : OfBytes text) where
    -- match answers yes or no exactly when the text has at most 65,536 bytes and is in the expression's language or not
    pub read_then_match : (matched : Bool) → MatchAnswers list classes text (answering_match matched)
        ↔ ((length text ≤ longest_text) × ((matched ≡ true) ↔ InExpression syntax bytes text))
    read_then_match matched =
        Iff.trans (match_exactly _ classes text matched)
        (Iff.trans (of_read text (λ t. (matched ≡ true) ↔ Matches classes t text))
        (Iff.and Iff.rfl (
          λ says. Iff.trans says (as_written text of-bytes),
          λ says. Iff.trans says (Iff.symm (as_written text of-bytes)),
        )))

    -- search finds the part that starts earliest and then ends furthest, of those in the language of the expression
    pub read_then_search : (s e : ℕ) → SearchAnswers list classes text (finding s e)
        ↔ ((length text ≤ longest_text) × Found (InExpression syntax bytes) text s e)
    read_then_search s e =
        Iff.trans (search_found_exactly _ classes text s e)
        (Iff.trans (of_read text (λ t. Found (Matches classes t) text s e))
        (Iff.and Iff.rfl (
          found_same text of-bytes as_written s e,
          found_same text of-bytes (λ w h. Iff.symm (as_written w h)) s e,
        )))

    -- and nothing exactly when no part is
    pub read_then_nothing : SearchAnswers list classes text (answering_match false)
        ↔ ((length text ≤ longest_text) × NothingFound (InExpression syntax bytes) text)
    read_then_nothing =
        Iff.trans (search_nothing_exactly _ classes text)
        (Iff.trans (of_read text (λ t. NothingFound (Matches classes t) text))
        (Iff.and Iff.rfl (
          λ none s e p. none s e (part_within text of-bytes (λ w h. (as_written w h).1) s e p),
          λ none s e p. none s e (part_within text of-bytes (λ w h. (as_written w h).0) s e p),
        )))
