-- What holds of all that was found: the first text is the empty one, no two lead to one state, and each entry is where
-- its text leads.
use Rattle.std.specs.Prelude.{ℕ, zero, suc, ◌+◌, ◌*◌, ◌/◌, ◌%◌, ◌≤◌, ◌<◌, ◌≡◌, refl, ◌⊎◌, List, [], ◌∷◌, ◌++◌, length, get_or}
use Rattle.std.proofs.Common.{arith, div-lt_iff_lt-mul, mul-zero, mul-le-mul_right, ap, sym, ◌∙◌, inl, inr, length-append}
use Rattle.std.proofs.Math.Decide.{dec_lt}
use Rattle.std.proofs.Math.ListN.{get_or-append}
use Rattle.std.proofs.Math.Seq.{get_or-append_seam}
use Rattle.language.specs.Tree.{Tree}
use Rattle.tree.specs.Leaf.{Leaf}
use Rattle.machines.specs.Explored.{OneState, tried, Explored, at_start, to_nothing, to_known, to_new}
use Rattle.machines.specs.Leading.{LeadsTo, nowhere, to_state}
use Rattle.machines.specs.OneStateLaws.{one_state_back, one_state_same}

-- so many elements are there, or one more
pub one_more : {A : Type 0} (xs : List A) (x : A) → length (xs ++ (x ∷ [])) ≡ 1 + length xs
one_more xs x = simp length-append (omega arith)

-- a place among one element more is one of before, or the new one's
place_of_one_more : {A : Type 0} (xs : List A) (x : A) (i : ℕ) → i < length (xs ++ (x ∷ []))
    → (i < length xs) ⊎ (i ≡ length xs)
place_of_one_more xs x i there = elim (dec_lt i (length xs)) [
  | yes l ↦ inl l
  | no l ↦ inr (omega (arith, one_more xs x))
]

-- what holds of each element, and of one more, holds of each of them
each_of_one_more : {A : Type 0} (P : ℕ → A → Type 0) (d : A) (xs : List A) (x : A)
    → ((n : ℕ) → n < length xs → P n (get_or xs n d)) → P (length xs) x
    → (n : ℕ) → n < length (xs ++ (x ∷ [])) → P n (get_or (xs ++ (x ∷ [])) n d)
each_of_one_more P d xs x each last n there = elim (place_of_one_more xs x n there) [
  | inl before ↦ rw (get_or-append xs (x ∷ []) d n before) (each n before)
  | inr new ↦ rw (new, get_or-append_seam xs x [] d) last
]

-- a product that is not 0 has no factor that is
factor_positive : (n a k : ℕ) → n < a * k → 0 < k
factor_positive n a zero small = omega (arith, mul-zero a)
factor_positive n a (suc k) small = omega arith

module _ (classes : List ℕ) (t : Tree Leaf) (firsts : List ℕ) where
  -- the first text is the empty one
  pub first_text : {texts : List (List ℕ)} {entries : List ℕ} → Explored classes t firsts texts entries
      → 1 ≤ length texts × (get_or texts 0 [] ≡ [])
  first_text at_start = (omega arith, refl)
  first_text (to_nothing e some nothing) = first_text e
  first_text (to_known e some left i there one) = first_text e
  first_text (to_new {texts} {entries} e some left none) =
      let w = tried classes t firsts texts (length entries) in
      let (has, is) = first_text e in
      (omega (arith, one_more texts w), get_or-append texts (w ∷ []) [] 0 has ∙ is)

  -- no two of the texts lead to one state
  pub texts_apart : {texts : List (List ℕ)} {entries : List ℕ} → Explored classes t firsts texts entries
      → (i j : ℕ) → i < length texts → j < length texts → OneState classes t (get_or texts i []) (get_or texts j [])
      → i ≡ j
  texts_apart at_start i j in-i in_j one = omega arith
  texts_apart (to_nothing e some nothing) i j in-i in_j one = texts_apart e i j in-i in_j one
  texts_apart (to_known e some left k there known) i j in-i in_j one = texts_apart e i j in-i in_j one
  texts_apart (to_new {texts} {entries} e some left none) i j in-i in_j one =
      let w = tried classes t firsts texts (length entries) in
      elim (place_of_one_more texts w i in-i) [
        | inl a ↦ elim (place_of_one_more texts w j in_j) [
          | inl b ↦ texts_apart e i j a b
              (rw (get_or-append texts (w ∷ []) [] i a, get_or-append texts (w ∷ []) [] j b) at one)
          | inr b ↦ absurd (none i a
              (rw (get_or-append texts (w ∷ []) [] i a, b, get_or-append_seam texts w [] []) at one))
        ]
        | inr a ↦ elim (place_of_one_more texts w j in_j) [
          | inl b ↦ absurd (none j b (one_state_back classes t w (get_or texts j [])
              (rw (get_or-append texts (w ∷ []) [] j b, a, get_or-append_seam texts w [] []) at one)))
          | inr b ↦ a ∙ sym b
        ]
      ]

  -- a text that is to be tried stays the same when more texts are found
  pub tried_kept : (texts more : List (List ℕ)) (n : ℕ) → n < length texts * length firsts
      → tried classes t firsts (texts ++ more) n ≡ tried classes t firsts texts n
  tried_kept texts more n small =
      let k = length firsts in
      let row : n / k < length texts = (div-lt_iff_lt-mul (factor_positive n (length texts) k small)).1 small in
      ap (λ (v : List ℕ). v ++ (get_or firsts (n % k) 0 ∷ [])) (get_or-append texts more [] (n / k) row)

  -- where a text leads stays the same when more texts are found
  leads_kept : (texts more : List (List ℕ)) (w : List ℕ) (s : ℕ) → LeadsTo classes t texts w s
      → LeadsTo classes t (texts ++ more) w s
  leads_kept texts more w s (nowhere is nothing) = nowhere is nothing
  leads_kept texts more w s (to_state i there is one) =
      to_state i (simp length-append (omega arith)) is (rw (get_or-append texts more [] i there) one)

  -- the result: each entry is where the text that was tried leads
  pub entry_leads : {texts : List (List ℕ)} {entries : List ℕ} → Explored classes t firsts texts entries
      → (n : ℕ) → n < length entries
      → LeadsTo classes t texts (tried classes t firsts texts n) (get_or entries n 0)
  entry_leads at_start n there = absurd (omega arith)
  entry_leads (to_nothing {texts} {entries} e some nothing) n there =
      each_of_one_more (λ m. LeadsTo classes t texts (tried classes t firsts texts m)) 0 entries 0
      (λ m before. entry_leads e m before) (nowhere refl nothing) n there
  entry_leads (to_known {texts} {entries} e some left i within one) n there =
      each_of_one_more (λ m. LeadsTo classes t texts (tried classes t firsts texts m)) 0 entries (1 + i)
      (λ m before. entry_leads e m before) (to_state i within refl one) n there
  entry_leads (to_new {texts} {entries} e some left none) n there =
      let w = tried classes t firsts texts (length entries) in
      each_of_one_more (λ m. LeadsTo classes t (texts ++ (w ∷ [])) (tried classes t firsts (texts ++ (w ∷ [])) m)) 0
      entries (1 + length texts)
      (λ m before. rw (tried_kept texts (w ∷ []) m (omega arith))
      (leads_kept texts (w ∷ []) (tried classes t firsts texts m) (get_or entries m 0) (entry_leads e m before)))
      (to_state (length texts) (omega (arith, one_more texts w)) refl
      (rw (tried_kept texts (w ∷ []) (length entries) some, get_or-append_seam texts w [] [])
      (one_state_same classes t w)))
      n there

  -- so it is the number of a state that is there
  pub entry_within : {texts : List (List ℕ)} {entries : List ℕ} → Explored classes t firsts texts entries
      → (n : ℕ) → n < length entries → get_or entries n 0 ≤ length texts
  entry_within {texts} {entries} e n there = elim (entry_leads e n there) [
    | nowhere is nothing ↦ omega arith
    | to_state i within is one ↦ omega arith
  ]

  -- no more texts were tried than were to be
  pub entries_within : {texts : List (List ℕ)} {entries : List ℕ} → Explored classes t firsts texts entries
      → length entries ≤ length texts * length firsts
  entries_within at_start = omega arith
  entries_within (to_nothing {entries = entries} e some nothing) = omega (arith, one_more entries 0)
  entries_within (to_known {entries = entries} e some left i within one) = omega (arith, one_more entries (1 + i))
  entries_within (to_new {texts} {entries} e some left none) =
      let w = tried classes t firsts texts (length entries) in
      let more : length texts * length firsts ≤ length (texts ++ (w ∷ [])) * length firsts =
      mul-le-mul_right (length firsts) (omega (arith, one_more texts w)) in
      omega (arith, one_more entries (1 + length texts))
