-- The numbers of class leaves, taken off labels: those of a tree's labels are the tree's, and where each is its rank,
-- the class labels before it are as many.
use Rattle.std.specs.Prelude.{ℕ, zero, suc, ◌+◌, ◌*◌, ◌/◌, ◌%◌, ◌≤◌, ◌<◌, ◌≡◌, refl, Bool, true, false, cond, List, [], ◌∷◌, ◌++◌, eqb, length, get_or, take, drop}
use Rattle.std.proofs.Common.{ap, sym, ◌∙◌, append-nil, arith, not-suc-le-zero, length-append, take-append-drop, take-suc, drop-cons}
use Rattle.std.proofs.Math.Decide.{dec_lt}
use Rattle.std.proofs.Math.ListN.{get_or-append}
use Rattle.std.proofs.Math.Seq.{get_or-append_seam}
use Rattle.language.specs.Tree.{Tree, leaf, catenation, union, star, nodes}
use Rattle.tree.specs.Leaf.{Leaf}
use Rattle.tree.specs.Layout.{class_kind, class_label, kind_at, class_records, label_at}
use Rattle.tree.specs.Records.{labels, class_numbers, Ranked}
use Rattle.tree.specs.Lengths.{length_labels}

-- the numbers of the class labels among some labels, in their order
abbrev pub numbers_in : List ℕ → List ℕ
numbers_in [] = []
numbers_in (l ∷ ls) = cond (eqb (l % 8) class_kind) (l / 8 ∷ numbers_in ls) (numbers_in ls)

-- those of two lists of labels, one after the other
numbers_append : (xs ys : List ℕ) → numbers_in (xs ++ ys) ≡ numbers_in xs ++ numbers_in ys
numbers_append [] ys = refl
numbers_append (l ∷ xs) ys = by_kind (eqb (l % 8) class_kind) (numbers_append xs ys)
  where
    by_kind : (b : Bool) → numbers_in (xs ++ ys) ≡ numbers_in xs ++ numbers_in ys
        → cond b (l / 8 ∷ numbers_in (xs ++ ys)) (numbers_in (xs ++ ys))
        ≡ cond b (l / 8 ∷ numbers_in xs) (numbers_in xs) ++ numbers_in ys
    by_kind true e = ap (λ (ns : List ℕ). l / 8 ∷ ns) e
    by_kind false e = e

-- the class labels of a tree tell the numbers of its class leaves
pub numbers_labels : (t : Tree Leaf) → numbers_in (labels t) ≡ class_numbers t
numbers_labels (leaf (Leaf.character a)) = let kind : (1 + 256 * a) % 8 ≡ 1 = omega arith in rw kind
numbers_labels (leaf (Leaf.class k)) =
    let kind : (5 + 8 * k) % 8 ≡ 5 = omega arith in
    let number : (5 + 8 * k) / 8 ≡ k = omega arith in
    rw (kind, number)
numbers_labels (leaf Leaf.empty_text) = refl
numbers_labels (catenation s t) =
    let left = numbers_labels s in let right = numbers_labels t in simp (numbers_append, append-nil, left, right)
numbers_labels (union s t) =
    let left = numbers_labels s in let right = numbers_labels t in simp (numbers_append, append-nil, left, right)
numbers_labels (star s) = let only = numbers_labels s in simp (numbers_append, append-nil, only)

-- a class label's number stands behind those of the class labels before it
numbers_around : (ls : List ℕ) (r : ℕ) → r < length ls → get_or ls r 0 % 8 ≡ class_kind
    → numbers_in ls ≡ numbers_in (take r ls) ++ (get_or ls r 0 / 8 ∷ numbers_in (drop (suc r) ls))
numbers_around ls r h kind =
    let split : ls ≡ take r ls ++ (get_or ls r 0 ∷ drop (suc r) ls) =
    sym (take-append-drop r ls) ∙ ap (λ (l : List ℕ). take r ls ++ l) (drop-cons ls r 0 h) in
    let here : numbers_in (get_or ls r 0 ∷ drop (suc r) ls) ≡ get_or ls r 0 / 8 ∷ numbers_in (drop (suc r) ls) = rw kind in
    ap numbers_in split ∙ numbers_append (take r ls) (get_or ls r 0 ∷ drop (suc r) ls)
    ∙ ap (λ (l : List ℕ). numbers_in (take r ls) ++ l) here

-- so where each class leaf's number is its rank, as many stand before it
pub ranked_number : (t : Tree Leaf) → Ranked t → (r : ℕ) → r < nodes t → get_or (labels t) r 0 % 8 ≡ class_kind
    → get_or (labels t) r 0 / 8 ≡ length (numbers_in (take r (labels t)))
ranked_number t ranked r h kind =
    let ls : List ℕ = labels t in
    let before : List ℕ = numbers_in (take r ls) in
    let number : ℕ = get_or ls r 0 / 8 in
    let after : List ℕ = numbers_in (drop (suc r) ls) in
    let all : class_numbers t ≡ before ++ (number ∷ after) =
    sym (numbers_labels t) ∙ numbers_around ls r (omega (arith, length_labels t)) kind in
    let inside : length before < length (class_numbers t) =
    omega (arith, ap length all, length-append before (number ∷ after)) in
    sym (get_or-append_seam before number after 0) ∙ ap (λ (l : List ℕ). get_or l (length before) 0) (sym all)
    ∙ ranked.each (length before) inside

-- the numbers of one label more
numbers_more : (ls : List ℕ) (n : ℕ) → n < length ls
    → numbers_in (take (suc n) ls) ≡ numbers_in (take n ls) ++ numbers_in (get_or ls n 0 ∷ [])
numbers_more ls n h = ap numbers_in (take-suc ls n 0 h) ∙ numbers_append (take n ls) (get_or ls n 0 ∷ [])

-- the first n records of a list are those of class leaves where the labels are
pub record SameKinds (list ls : List ℕ) (n : ℕ) : Type 0 where
  pub room : n ≤ length ls
  pub kinds : (r : ℕ) → r < n → eqb (kind_at list r) class_kind ≡ eqb (get_or ls r 0 % 8) class_kind

-- those of fewer are
fewer_kinds : {list ls : List ℕ} {n : ℕ} → SameKinds list ls (suc n) → SameKinds list ls n
fewer_kinds same = record { room = omega (arith, same.room); kinds = λ r h. same.kinds r (omega arith) }

-- then there are as many class leaves among the records as among the labels
pub class_records_are : (list ls : List ℕ) (n : ℕ) → SameKinds list ls n
    → class_records list n ≡ length (numbers_in (take n ls))
class_records_are list ls zero same = refl
class_records_are list ls (suc n) same =
    rw (class_records_are list ls n (fewer_kinds same), same.kinds n (omega arith), numbers_more ls n same.room)
    (by_kind (eqb (get_or ls n 0 % 8) class_kind))
  where
    by_kind : (b : Bool) → length (numbers_in (take n ls)) + cond b 1 0
        ≡ length (numbers_in (take n ls) ++ cond b (get_or ls n 0 / 8 ∷ []) [])
    by_kind true = simp length-append
    by_kind false = simp length-append

-- where one number more is the rank, all are ranks
rank_more : (ns : List ℕ) (n : ℕ) → n ≡ length ns → ((j : ℕ) → j < length ns → get_or ns j 0 ≡ j) → (j : ℕ)
    → j < length (ns ++ (n ∷ [])) → get_or (ns ++ (n ∷ [])) j 0 ≡ j
rank_more ns n e each j h = by_place (dec_lt j (length ns))
  where
    by_place : Dec (j < length ns) → get_or (ns ++ (n ∷ [])) j 0 ≡ j
    by_place (yes l) = get_or-append ns (n ∷ []) 0 j l ∙ each j l
    by_place (no l) =
        let here : j ≡ length ns = omega (arith, length-append ns (n ∷ [])) in
        rw here (get_or-append_seam ns n [] 0 ∙ e)

-- labels that were taken off a list have ranks for their numbers
pub taken_ranks : (list ls : List ℕ) (n : ℕ) → SameKinds list ls n
    → ((r : ℕ) → r < n → get_or ls r 0 ≡ label_at list r) → (j : ℕ) → j < length (numbers_in (take n ls))
    → get_or (numbers_in (take n ls)) j 0 ≡ j
taken_ranks list ls zero same shown = λ j h. absurd (not-suc-le-zero h)
taken_ranks list ls (suc n) same shown =
    rw (numbers_more ls n same.room)
    (by_kind (eqb (get_or ls n 0 % 8) class_kind) (same.kinds n (omega arith))
    (taken_ranks list ls n (fewer_kinds same) (λ r h. shown r (omega arith))))
  where
    by_kind : (b : Bool) → eqb (kind_at list n) class_kind ≡ b
        → ((j : ℕ) → j < length (numbers_in (take n ls)) → get_or (numbers_in (take n ls)) j 0 ≡ j)
        → (j : ℕ) → j < length (numbers_in (take n ls) ++ cond b (get_or ls n 0 / 8 ∷ []) [])
        → get_or (numbers_in (take n ls) ++ cond b (get_or ls n 0 / 8 ∷ []) []) j 0 ≡ j
    by_kind true e each =
        let label : get_or ls n 0 ≡ class_label (class_records list n) = rw e at (shown n (omega arith)) in
        let number : get_or ls n 0 / 8 ≡ class_records list n = omega arith in
        rank_more (numbers_in (take n ls)) (get_or ls n 0 / 8)
        (number ∙ class_records_are list ls n (fewer_kinds same)) each
    by_kind false e each = rw append-nil each
