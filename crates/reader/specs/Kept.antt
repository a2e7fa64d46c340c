-- What follows from the promise of `read`: its answer is one alone; where it says that the records were written they
-- are a good list of the expression's tree, and where it refuses no byte of the buffer differs.
use Rattle.std.specs.Prelude.{ℕ, ◌*◌, ◌≤◌, ◌≡◌, refl, Bool, true, false, cond, List, ◌++◌, length, take, drop, ltb, Result, Ok, Err}
use Rattle.std.proofs.Common.{arith, ap, sym, ◌∙◌, take_at, drop_at, ltb-false}
use Rattle.language.specs.Tree.{Tree, nodes}
use Rattle.tree.specs.Limits.{most_pieces}
use Rattle.tree.specs.RefusalNumbers.{too_many_pieces, buffer_too_short}
use Rattle.tree.specs.Layout.{record_size}
use Rattle.tree.specs.Leaf.{Leaf}
use Rattle.tree.specs.Records.{encode, piece_count, Ranked, Good}
use Rattle.tree.specs.Places.{with_places}
use Rattle.tree.specs.Lengths.{nodes_positive}
use Rattle.operands.specs.Bytes.{first}
use Rattle.operands.specs.Scanner.{Outcome, tree, refused}
use Rattle.checker.specs.Expanded.{expanded}
use Rattle.checker.specs.Drawn.{drawn}
use Rattle.checker.specs.DrawnLaws.{drawn_tree, drawn_refusal}
use Rattle.checker.proofs.DrawnLaws.{ranked_recorded}
use Rattle.reader.specs.PlacesIn.{places_in}
use Rattle.reader.specs.PlacesInLaws.{drawn_places, placed_length, placed_good}
use Rattle.reader.specs.Answer.{
  ReadNumbers,
  refusing_read,
  reading,
  read_numbers,
  read_as,
  answer_for,
  buffer_for,
  read_answered,
  records_after,
}
use Rattle.tree.specs.RefusalBack.{refusal_of, refusal_back}
use Rattle.tree.specs.Refusing.{refusal_number}
use Rattle.tree.specs.declared.refusal.Refusal.{Refusal}
use Rattle.tree.specs.declared.refusal.Refused.{Refused}
use Rattle.reader.specs.declared.answer.Read.{Read}

-- the two counts make what was read
read_same : {records pieces records' pieces' : ℕ} → records ≡ records' → pieces ≡ pieces'
    → read_as records pieces ≡ read_as records' pieces'
read_same e f = rw (e, f)

-- a refusal is known from its number and its place
pub fault_same : (fault fault' : Refused) → refusal_number fault.refusal ≡ refusal_number fault'.refusal
    → fault.place ≡ fault'.place → fault ≡ fault'
fault_same fault fault' e f =
    of_parts (sym (refusal_back fault.refusal) ∙ ap refusal_of e ∙ refusal_back fault'.refusal) f
  where
    of_parts : {refusal refusal' : Refusal} {place place' : ℕ} → refusal ≡ refusal' → place ≡ place'
        → ◌≡◌ {A = Refused} (record { refusal = refusal; place = place })
        (record { refusal = refusal'; place = place' })
    of_parts e f = rw (e, f)

-- an answer is known from its numbers, where these are neither a refusal nor a record
numbers_injective : (r s : Result Read Refused) → read_numbers r ≡ read_numbers s
    → ((read_numbers r).refusal ≡ 0 → (read_numbers r).records ≡ 0 → ⊥)
    → r ≡ s
numbers_injective (Ok read) (Ok read') e sure =
    read_same (ap (λ (n : ReadNumbers). n.records) e) (ap (λ (n : ReadNumbers). n.pieces) e)
numbers_injective (Err fault) (Err fault') e sure =
    ap Err (fault_same fault fault' (ap (λ (n : ReadNumbers). n.refusal) e) (ap (λ (n : ReadNumbers). n.place) e))
numbers_injective (Ok read) (Err fault) e sure =
    absurd (sure refl (ap (λ (n : ReadNumbers). n.records) e))
numbers_injective (Err fault) (Ok read) e sure =
    absurd (sure (ap (λ (n : ReadNumbers). n.refusal) e) refl)

-- what is answered is a refusal, or has a record
sure_pick : (t : Tree Leaf) (many short : Bool)
    → (cond many (refusing_read too_many_pieces 0) (cond short (refusing_read buffer_too_short 0) (reading t))).refusal
    ≡ 0
    → (cond many (refusing_read too_many_pieces 0) (cond short (refusing_read buffer_too_short 0) (reading t))).records
    ≡ 0 → ⊥
sure_pick t true short e f = omega arith
sure_pick t false true e f = omega arith
sure_pick t false false e f = omega (arith, nodes_positive t)

sure_answer : (bytes : List ℕ) (room : ℕ) (outcome : Outcome (Tree Leaf)) → drawn (expanded first bytes) ≡ outcome
    → (answer_for outcome room).refusal ≡ 0 → (answer_for outcome room).records ≡ 0 → ⊥
sure_answer bytes room (refused number place) scans e f =
    omega (arith, (drawn_refusal first bytes number place scans).least)
sure_answer bytes room (tree t) scans e f = sure_pick t (ltb most_pieces (piece_count t)) (ltb room
    (record_size * nodes t)) e f

-- two answers that both fit the promise are equal
pub answer_unique : (bytes : List ℕ) (room : ℕ) (r s : Result Read Refused) → read_numbers r ≡ read_answered bytes room
    → read_numbers s ≡ read_answered bytes room → r ≡ s
answer_unique bytes room r s e f =
    numbers_injective r s (e ∙ sym f) (rw e (sure_answer bytes room (drawn (expanded first bytes)) refl))

-- what it means that the records were written: the expression has this tree, the counts are the tree's, and the records
-- are those of the tree with its places, a good list
pub record Kept (bytes before after : List ℕ) (records pieces : ℕ) : Type 0 where
  pub read : Tree Leaf
  pub scans : drawn (expanded first bytes) ≡ tree read
  pub counted : records ≡ nodes read
  pub parted : pieces ≡ piece_count read
  pub fits : record_size * records ≤ length before
  pub list : take (record_size * records) after ≡ with_places (places_in first bytes) (encode read)
  pub good : Good (take (record_size * records) after) read
  pub rest : drop (record_size * records) after ≡ drop (record_size * records) before

kept_pick : (bytes before after : List ℕ) (records pieces : ℕ) (t : Tree Leaf) → drawn (expanded first bytes) ≡ tree t
    → (many short : Bool) → ltb most_pieces (piece_count t) ≡ many → ltb (length before) (record_size * nodes t) ≡ short
    → read_numbers (read_as records pieces)
    ≡ cond many (refusing_read too_many_pieces 0) (cond short (refusing_read buffer_too_short 0) (reading t))
    → after ≡ cond many before (cond short before (with_places (places_in first bytes) (encode t)
    ++ drop (record_size * nodes t) before))
    → Kept bytes before after records pieces
kept_pick bytes before after records pieces t scans true short m h e f =
    absurd (omega (arith, ap (λ (n : ReadNumbers). n.refusal) e))
kept_pick bytes before after records pieces t scans false true m h e f =
    absurd (omega (arith, ap (λ (n : ReadNumbers). n.refusal) e))
kept_pick bytes before after records pieces t scans false false m h e f =
    let counted : records ≡ nodes t = ap (λ (n : ReadNumbers). n.records) e in
    let of = drawn_places first bytes t scans in
    let list : List ℕ = with_places (places_in first bytes) (encode t) in
    let size : ℕ = record_size * nodes t in
    let long : length list ≡ size = placed_length (places_in first bytes) t of in
    let taken : take (record_size * records) after ≡ list =
    rw (f, counted) (take_at list (drop size before) size long) in
    let ranked : Ranked t =
    let (written, outcome, same) = drawn_tree (expanded first bytes) t scans in rw same (ranked_recorded written) in
    record {
      read = t;
      scans = scans;
      counted = counted;
      parted = ap (λ (n : ReadNumbers). n.pieces) e;
      fits = omega (arith, ltb-false (length before) (record_size * nodes t) h);
      list = taken;
      good = rw taken (placed_good (places_in first bytes) t of (ltb-false most_pieces (piece_count t) m) ranked);
      rest = rw (f, counted) (drop_at list (drop size before) size long);
    }

kept_outcome : (bytes before after : List ℕ) (records pieces : ℕ) (outcome : Outcome (Tree Leaf))
    → drawn (expanded first bytes) ≡ outcome
    → read_numbers (read_as records pieces) ≡ answer_for outcome (length before)
    → after ≡ buffer_for (places_in first bytes)
    outcome before
    → Kept bytes before after records pieces
kept_outcome bytes before after records pieces (refused number place) scans e f =
    absurd (omega (arith, ap (λ (n : ReadNumbers). n.refusal) e, (drawn_refusal first bytes number place scans).least))
kept_outcome bytes before after records pieces (tree t) scans e f =
    kept_pick bytes before after records pieces t scans (ltb most_pieces (piece_count t)) (ltb (length before)
    (record_size * nodes t))
    refl refl e f

-- from what `read` promises, where it answers that the records were written
pub kept : (bytes before after : List ℕ) (records pieces : ℕ) → read_numbers (read_as records pieces)
    ≡ read_answered bytes (length before) → after ≡ records_after bytes before → Kept bytes before after records pieces
kept bytes before after records pieces e f =
    kept_outcome bytes before after records pieces (drawn (expanded first bytes)) refl e f

-- where it answers a refusal, no byte of the buffer differs
same_pick : (places before : List ℕ) (fault : Refused) (t : Tree Leaf) (many short : Bool)
    → read_numbers (Err fault)
    ≡ cond many (refusing_read too_many_pieces 0) (cond short (refusing_read buffer_too_short 0) (reading t))
    → cond many before (cond short before (with_places places (encode t) ++ drop (record_size * nodes t) before))
    ≡ before
same_pick places before fault t true short e = refl
same_pick places before fault t false true e = refl
same_pick places before fault t false false e =
    absurd (omega (arith, nodes_positive t, ap (λ (n : ReadNumbers). n.records) e))

same_outcome : (places before : List ℕ) (fault : Refused) (outcome : Outcome (Tree Leaf))
    → read_numbers (Err fault) ≡ answer_for outcome (length before)
    → buffer_for places outcome before ≡ before
same_outcome places before fault (refused number' place') e = refl
same_outcome places before fault (tree t) e =
    same_pick places before fault t (ltb most_pieces (piece_count t))
    (ltb (length before) (record_size * nodes t)) e

pub refusal_keeps : (bytes before after : List ℕ) (fault : Refused) → read_numbers (Err fault)
    ≡ read_answered bytes (length before) → after ≡ records_after bytes before → after ≡ before
refusal_keeps bytes before after fault e f = f
    ∙ same_outcome (places_in first bytes) before fault (drawn (expanded first bytes)) e
