-- What the plain simulation accepts lies in the language: from each state, the texts that lead to the accepting state.
use Rattle.std.specs.Prelude.{ℕ, ◌≡◌, refl, List, [], ◌∷◌, ◌++◌}
use Rattle.std.proofs.Common.{ap, inl, inr}
use Rattle.language.specs.Tree.{Tree, leaf, catenation, union, star}
use Rattle.language.specs.Meaning.{Meaning}
use Rattle.language.specs.Language.{Language, Repeated, none, more}
use Rattle.language.specs.Automaton.{
  State,
  start,
  accepting,
  left,
  right,
  States,
  Empty,
  Reads,
  PathOf,
  here,
  step,
  Started,
  Stepped,
  After,
  Accepts,
}

-- a text of L before one of M
abbrev Followed : (List ℕ → Type 0) → (List ℕ → Type 0) → List ℕ → Type 0
Followed L M w = (u : List ℕ) × (v : List ℕ) × (w ≡ u ++ v) × L u × M v

-- one more text of L before a repetition is a repetition
repeated_more : {L : List ℕ → Type 0} {w : List ℕ} → Followed L (Repeated L) w → Repeated L w
repeated_more j = rw j.2 (more j.3 j.4)

module _ {A : Type 0} (M : Meaning A) where
  -- the texts that lead from a state to the accepting state
  abbrev Rest : Tree A → State → List ℕ → Type 0
  Rest t start w = Language M t w
  Rest t accepting w = w ≡ []
  Rest (leaf a) (left p) w = ⊥
  Rest (leaf a) (right p) w = ⊥
  Rest (catenation s t) (left p) w = Followed (Rest s p) (Language M t) w
  Rest (catenation s t) (right p) w = Rest t p w
  Rest (union s t) (left p) w = Rest s p w
  Rest (union s t) (right p) w = Rest t p w
  Rest (star s) (left p) w = Followed (Rest s p) (Repeated (Language M s)) w
  Rest (star s) (right p) w = ⊥

  -- what an empty transition ends in, its beginning has too
  rest_empty : {t : Tree A} {p q : State} → Empty M t p q → (w : List ℕ) → Rest t q w → Rest t p w
  rest_empty (Empty.leaf_past has) w r = inr (r, has)
  rest_empty Empty.catenation_in w r = r
  rest_empty Empty.catenation_over w r = ([], w, refl, refl, r)
  rest_empty Empty.catenation_out w r = r
  rest_empty Empty.union_in_left w r = inl r
  rest_empty Empty.union_in_right w r = inr r
  rest_empty Empty.union_out_left w r = r
  rest_empty Empty.union_out_right w r = r
  rest_empty Empty.star_in w r = repeated_more r
  rest_empty Empty.star_past w r = rw r none
  rest_empty Empty.star_out w r = ([], [], r, refl, none)
  rest_empty Empty.star_back w r = ([], w, refl, refl, repeated_more r)
  rest_empty (Empty.catenation_left e) w r = (r.0, r.1, r.2, rest_empty e r.0 r.3, r.4)
  rest_empty (Empty.catenation_right e) w r = rest_empty e w r
  rest_empty (Empty.union_left e) w r = rest_empty e w r
  rest_empty (Empty.union_right e) w r = rest_empty e w r
  rest_empty (Empty.star_inside e) w r = (r.0, r.1, r.2, rest_empty e r.0 r.3, r.4)

  -- what a transition reading b ends in, its beginning has too, after b
  rest_reads : {b : ℕ} {t : Tree A} {p q : State} → Reads M b t p q → (w : List ℕ) → Rest t q w → Rest t p (b ∷ w)
  rest_reads {b = b} (Reads.at_leaf takes) w r = inl (b, ap (λ (v : List ℕ). b ∷ v) r, takes)
  rest_reads {b = b} (Reads.catenation_left e) w r =
      (b ∷ r.0, r.1, ap (λ (v : List ℕ). b ∷ v) r.2, rest_reads e r.0 r.3, r.4)
  rest_reads (Reads.catenation_right e) w r = rest_reads e w r
  rest_reads (Reads.union_left e) w r = rest_reads e w r
  rest_reads (Reads.union_right e) w r = rest_reads e w r
  rest_reads {b = b} (Reads.star_inside e) w r =
      (b ∷ r.0, r.1, ap (λ (v : List ℕ). b ∷ v) r.2, rest_reads e r.0 r.3, r.4)

  -- a path of empty transitions likewise
  rest_path : {t : Tree A} {p q : State} → PathOf (Empty M t) p q → (w : List ℕ) → Rest t q w → Rest t p w
  rest_path here w r = r
  rest_path (step e path) w r = rest_empty e w (rest_path path w r)

  -- marks that come to the accepting state hold one from which the text leads there
  after_rest : (t : Tree A) (w : List ℕ) (X : States) → After M t w X accepting → (p : State) × X p × Rest t p w
  after_rest t [] X x = (accepting, x, refl)
  after_rest t (b ∷ w) X a =
      let (p, (m, (o, x, e), path), r) = after_rest t w (Stepped M t b X) a in
      (o, x, rest_reads e w (rest_path path w r))

  -- what is accepted lies in the language: the text leads from the start to the accepting state
  pub accepted_language : (t : Tree A) (w : List ℕ) → Accepts M t w → Language M t w
  accepted_language t w a =
      let (p, (o, begins, path), r) = after_rest t w (Started M t) a in
      rw begins at (rest_path path w r)
