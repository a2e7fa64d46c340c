-- The codes hold the empty transitions: the code of state i leads to state j exactly where a transition leads from the
-- one to the other.
use Rattle.std.specs.Prelude.{ℕ, ◌+◌, ◌*◌, ◌/◌, ◌≡◌, refl, Bool, true, false, cond, ◌⊎◌, ◌↔◌, [], ◌∷◌, ◌++◌, get_or}
use Rattle.std.proofs.Common.{sym, ◌∙◌, subst, inl, inr, ⊎_elim, arith}
use Rattle.std.proofs.lemmas.Bool.{false≢true}
use Rattle.language.specs.Automaton.{State, start, accepting, left, right, Empty}
use Rattle.language.specs.Nested.{Nested, leaf, catenation, union, star, below, OwnEmpty}
use Rattle.tree.specs.Leaf.{Leaf, byteless, has_empty}
use Rattle.tables.specs.Words.{width, Own, number}
use Rattle.tables.specs.Plan.{leads_on, jumps_to, leads_and_jumps, LeadsOn, Jumps, start_code, codes_of}
use Rattle.tables.specs.Entries.{length_codes}
use Rattle.closing.specs.BitsOfWords.NodeParts.{one_inside, one_end, two_left, two_right, two_end}
use Rattle.closing.specs.BitsOfWords.Numbers.{number_accepting, number_below}

-- the code of state i leads to state j: to the next one, or by its jump
abbrev pub CodeLeads : (code i j : ℕ) → Type 0
CodeLeads code i j = (LeadsOn code × (j ≡ i + 1)) ⊎ (Jumps code × (j ≡ code / 4))

-- where each code leads
none_leads : (i j : ℕ) → CodeLeads 0 i j → ⊥
none_leads i j (inl h) = omega (arith, h.0)
none_leads i j (inr h) = omega (arith, h.0)

on_leads : (i j : ℕ) → CodeLeads leads_on i j ↔ (j ≡ i + 1)
on_leads i j = (⊎_elim (λ h. h.1) (λ h. absurd (omega (arith, h.0))), λ e. inl (refl, e))

jump_leads : (t i j : ℕ) → CodeLeads (jumps_to t) i j ↔ (j ≡ t)
jump_leads t i j = (
  ⊎_elim (λ h. absurd (omega (arith, h.0))) (λ h. omega (arith, h.1)),
  λ e. inr (omega arith, omega (arith, e)),
)

both_lead : (t i j : ℕ) → CodeLeads (leads_and_jumps t) i j ↔ ((j ≡ i + 1) ⊎ (j ≡ t))
both_lead t i j = (
  ⊎_elim (λ h. inl h.1) (λ h. inr (omega (arith, h.1))),
  ⊎_elim (λ e. inl (omega arith, e)) (λ e. inr (omega arith, omega (arith, e))),
)

-- a leaf's start leads on where the leaf has the empty text
leaf_leads : (test : Bool) (n i j : ℕ) → CodeLeads (cond test leads_on (4 * n)) i j ↔ ((test ≡ true) × (j ≡ i + 1))
leaf_leads true n i j = (λ h. (refl, (on_leads i j).0 h), λ (_, e). (on_leads i j).1 e)
leaf_leads false n i j = (
  ⊎_elim (λ h. absurd (omega (arith, h.0))) (λ h. absurd (omega (arith, h.0))),
  λ (e, _). absurd (false≢true e),
)

-- in a list for a node of two parts, where the codes of the parts' states are
module _ (s e : ℕ) (x y : Nested Leaf) (i j m n : ℕ) where
  pub left_code : (p : State) → Own x p → get_or (s ∷ (codes_of x i m ++ codes_of y j n ++ (e ∷ []))) (1 + number x p) 0
      ≡ get_or (codes_of x i m) (number x p) 0
  left_code p o = two_left s e (codes_of x i m) (codes_of y j n) (length_codes x i m) (length_codes y j n) 0
      (number x p)
      (number_below x p o)

  -- the code of a state of the second part
  pub right_code : (p : State) → Own y p → get_or (s ∷ (codes_of x i m ++ codes_of y j n ++ (e ∷ [])))
      (1 + width x + number y p) 0
      ≡ get_or (codes_of y j n) (number y p) 0
  right_code p o = two_right s e (codes_of x i m) (codes_of y j n) (length_codes x i m) (length_codes y j n) 0
      (number y p)
      (number_below y p o)

  -- the accepting state's code
  pub end_code : get_or (s ∷ (codes_of x i m ++ codes_of y j n ++ (e ∷ []))) (1 + width x + width y) 0 ≡ e
  end_code = two_end s e (codes_of x i m) (codes_of y j n) (length_codes x i m) (length_codes y j n) 0

-- in a list for a node of one part, where the codes of the part's states are
module _ (s e : ℕ) (x : Nested Leaf) (i m : ℕ) where
  pub inside_code : (p : State) → Own x p → get_or (s ∷ (codes_of x i m ++ (e ∷ []))) (1 + number x p) 0
      ≡ get_or (codes_of x i m) (number x p) 0
  inside_code p o = one_inside s e (codes_of x i m) (length_codes x i m) 0 (number x p) (number_below x p o)

  -- the accepting state's code
  pub last_code : get_or (s ∷ (codes_of x i m ++ (e ∷ []))) (1 + width x) 0 ≡ e
  last_code = one_end s e (codes_of x i m) (length_codes x i m) 0

-- a transition out of a state of x, or, where that is the accepting state, where the code that it has around x leads
abbrev Out : Nested Leaf → ℕ → ℕ → State → ℕ → Type 0
Out x i exit p j = ((q : State) × Own x q × (i + number x q ≡ j) × OwnEmpty byteless x p q)
    ⊎ ((p ≡ accepting) × CodeLeads exit (i + number x accepting) j)

-- told with another form of the code and of the state's number
same_leads : {c d i k : ℕ} (j : ℕ) → c ≡ d → i ≡ k → CodeLeads c i j → CodeLeads d k j
same_leads {c} {d} {i} {k} j e f h = subst (λ (n : ℕ). CodeLeads n k j) e (subst (λ (n : ℕ). CodeLeads c n j) f h)

-- each code leads along a transition
out : (x : Nested Leaf) (i exit : ℕ) (p : State) → Own x p → (j : ℕ)
    → CodeLeads (get_or (codes_of x i exit) (number x p) 0) (i + number x p) j → Out x i exit p j
out (leaf a) i exit start o j b =
    let (has, e) = (leaf_leads (has_empty a) (start_code a) (i + 0) j).0 b in
    inl (accepting, tt, omega (arith, e), Empty.leaf_past has)
out (leaf a) i exit accepting o j b = inr (refl, b)
out (catenation x y) i exit start o j b =
    inl (left start, tt, omega (arith, (on_leads (i + 0) j).0 b), Empty.catenation_in)
out (catenation x y) i exit accepting o j b = inr (refl, same_leads j (end_code _ exit x y _ _ _ _) refl b)
out (catenation x y) i exit (left p) o j b =
    ⊎_elim
    (λ g. inl (left g.0, g.1, omega (arith, g.2), Empty.catenation_left g.3))
    (λ g. inl (
      right start,
      tt,
      omega (arith, (on_leads _ j).0 g.1, number_accepting x),
      subst (λ (r : State). OwnEmpty byteless (catenation x y) (left r) (right start))
          (sym g.0) Empty.catenation_over,
    ))
    (out x (i + 1) leads_on p o j (same_leads j (left_code _ exit x y _ _ _ _ p o) (omega arith) b))
out (catenation x y) i exit (right p) o j b =
    ⊎_elim
    (λ g. inl (right g.0, g.1, omega (arith, g.2), Empty.catenation_right g.3))
    (λ g. inl (
      accepting,
      tt,
      omega (arith, (on_leads _ j).0 g.1, number_accepting y),
      subst (λ (r : State). OwnEmpty byteless (catenation x y) (right r) accepting) (sym g.0) Empty.catenation_out,
    ))
    (out y (i + (1 + width x)) leads_on p o j (same_leads j (right_code _ exit x y _ _ _ _ p o) (omega arith) b))
out (union x y) i exit start o j b =
    ⊎_elim
    (λ e. inl (left start, tt, omega (arith, e), Empty.union_in_left))
    (λ e. inl (right start, tt, omega (arith, e), Empty.union_in_right))
    ((both_lead (i + (1 + width x)) (i + 0) j).0 b)
out (union x y) i exit accepting o j b = inr (refl, same_leads j (end_code _ exit x y _ _ _ _) refl b)
out (union x y) i exit (left p) o j b =
    ⊎_elim
    (λ g. inl (left g.0, g.1, omega (arith, g.2), Empty.union_left g.3))
    (λ g. inl (
      accepting,
      tt,
      omega (arith, (jump_leads _ _ j).0 g.1),
      subst (λ (r : State). OwnEmpty byteless (union x y) (left r) accepting) (sym g.0) Empty.union_out_left,
    ))
    (out x (i + 1) (jumps_to (i + (1 + width x + width y))) p o j
    (same_leads j (left_code _ exit x y _ _ _ _ p o) (omega arith) b))
out (union x y) i exit (right p) o j b =
    ⊎_elim
    (λ g. inl (right g.0, g.1, omega (arith, g.2), Empty.union_right g.3))
    (λ g. inl (
      accepting,
      tt,
      omega (arith, (on_leads _ j).0 g.1, number_accepting y),
      subst (λ (r : State). OwnEmpty byteless (union x y) (right r) accepting) (sym g.0) Empty.union_out_right,
    ))
    (out y (i + (1 + width x)) leads_on p o j (same_leads j (right_code _ exit x y _ _ _ _ p o) (omega arith) b))
out (star x) i exit start o j b =
    ⊎_elim
    (λ e. inl (left start, tt, omega (arith, e), Empty.star_in))
    (λ e. inl (accepting, tt, omega (arith, e), Empty.star_past))
    ((both_lead (i + (1 + width x)) (i + 0) j).0 b)
out (star x) i exit accepting o j b = inr (refl, same_leads j (last_code _ exit x _ _) refl b)
out (star x) i exit (left p) o j b =
    ⊎_elim
    (λ g. inl (left g.0, g.1, omega (arith, g.2), Empty.star_inside g.3))
    (λ g. ⊎_elim
    (λ e. inl (
      accepting,
      tt,
      omega (arith, e, number_accepting x),
      subst (λ (r : State). OwnEmpty byteless (star x) (left r) accepting) (sym g.0) Empty.star_out,
    ))
    (λ e. inl (
      left start,
      tt,
      omega (arith, e),
      subst (λ (r : State). OwnEmpty byteless (star x) (left r) (left start)) (sym g.0) Empty.star_back,
    ))
    ((both_lead (i + 1) _ j).0 g.1))
    (out x (i + 1) (leads_and_jumps (i + 1)) p o j (same_leads j (inside_code _ exit x _ _ p o) (omega arith) b))
out (below x) i exit start o j b = absurd (none_leads (i + 0) j b)
out (below x) i exit accepting o j b = inr (refl, b)
out (leaf a) i exit (left p) o j b = elim o [ ]
out (leaf a) i exit (right p) o j b = elim o [ ]
out (star x) i exit (right p) o j b = elim o [ ]
out (below x) i exit (left p) o j b = elim o [ ]
out (below x) i exit (right p) o j b = elim o [ ]

-- the accepting state's code is the one given
exit_code : (x : Nested Leaf) (i exit : ℕ) → get_or (codes_of x i exit) (number x accepting) 0 ≡ exit
exit_code (leaf a) i exit = refl
exit_code (catenation x y) i exit = end_code _ exit x y _ _ _ _
exit_code (union x y) i exit = end_code _ exit x y _ _ _ _
exit_code (star x) i exit = last_code _ exit x _ _
exit_code (below x) i exit = refl

-- each transition is where a code leads
along : (x : Nested Leaf) (i exit : ℕ) {p q : State} → OwnEmpty byteless x p q → Own x p → Own x q → (j : ℕ)
    → i + number x q ≡ j → CodeLeads (get_or (codes_of x i exit) (number x p) 0) (i + number x p) j
along (leaf a) i exit (Empty.leaf_past has) o o' j h =
    (leaf_leads (has_empty a) (start_code a) (i + 0) j).1 (has, omega arith)
along (catenation x y) i exit Empty.catenation_in o o' j h = (on_leads (i + 0) j).1 (omega arith)
along (catenation x y) i exit Empty.catenation_over o o' j h =
    same_leads j (sym (left_code _ exit x y _ _ _ _ accepting tt ∙ exit_code x _ _)) refl
    ((on_leads _ j).1 (omega (arith, number_accepting x)))
along (catenation x y) i exit Empty.catenation_out o o' j h =
    same_leads j (sym (right_code _ exit x y _ _ _ _ accepting tt ∙ exit_code y _ _)) refl
    ((on_leads _ j).1 (omega (arith, number_accepting y)))
along (catenation x y) i exit (Empty.catenation_left {p = p} e) o o' j h =
    same_leads j (sym (left_code _ exit x y _ _ _ _ p o)) (omega arith) (along x (i + 1) _ e o o' j (omega arith))
along (catenation x y) i exit (Empty.catenation_right {p = p} e) o o' j h =
    same_leads j (sym (right_code _ exit x y _ _ _ _ p o)) (omega arith)
    (along y (i + (1 + width x)) _ e o o' j (omega arith))
along (union x y) i exit Empty.union_in_left o o' j h =
    (both_lead (i + (1 + width x)) (i + 0) j).1 (inl (omega arith))
along (union x y) i exit Empty.union_in_right o o' j h =
    (both_lead (i + (1 + width x)) (i + 0) j).1 (inr (omega arith))
along (union x y) i exit Empty.union_out_left o o' j h =
    same_leads j (sym (left_code _ exit x y _ _ _ _ accepting tt ∙ exit_code x _ _)) refl
    ((jump_leads (i + (1 + width x + width y)) _ j).1 (omega arith))
along (union x y) i exit Empty.union_out_right o o' j h =
    same_leads j (sym (right_code _ exit x y _ _ _ _ accepting tt ∙ exit_code y _ _)) refl
    ((on_leads _ j).1 (omega (arith, number_accepting y)))
along (union x y) i exit (Empty.union_left {p = p} e) o o' j h =
    same_leads j (sym (left_code _ exit x y _ _ _ _ p o)) (omega arith) (along x (i + 1) _ e o o' j (omega arith))
along (union x y) i exit (Empty.union_right {p = p} e) o o' j h =
    same_leads j (sym (right_code _ exit x y _ _ _ _ p o)) (omega arith)
    (along y (i + (1 + width x)) _ e o o' j (omega arith))
along (star x) i exit Empty.star_in o o' j h = (both_lead (i + (1 + width x)) (i + 0) j).1 (inl (omega arith))
along (star x) i exit Empty.star_past o o' j h = (both_lead (i + (1 + width x)) (i + 0) j).1 (inr (omega arith))
along (star x) i exit Empty.star_back o o' j h =
    same_leads j (sym (inside_code _ exit x _ _ accepting tt ∙ exit_code x _ _)) refl
    ((both_lead (i + 1) _ j).1 (inr (omega arith)))
along (star x) i exit Empty.star_out o o' j h =
    same_leads j (sym (inside_code _ exit x _ _ accepting tt ∙ exit_code x _ _)) refl
    ((both_lead (i + 1) _ j).1 (inl (omega (arith, number_accepting x))))
along (star x) i exit (Empty.star_inside {p = p} e) o o' j h =
    same_leads j (sym (inside_code _ exit x _ _ p o)) (omega arith) (along x (i + 1) _ e o o' j (omega arith))
along (below x) i exit (Empty.leaf_past has) o o' j h = absurd has

-- the ends of a transition are states of the piece
pub transition_own : (x : Nested Leaf) {p q : State} → OwnEmpty byteless x p q → Own x p × Own x q
transition_own (leaf a) (Empty.leaf_past has) = (tt, tt)
transition_own (catenation x y) Empty.catenation_in = (tt, tt)
transition_own (catenation x y) Empty.catenation_over = (tt, tt)
transition_own (catenation x y) Empty.catenation_out = (tt, tt)
transition_own (catenation x y) (Empty.catenation_left e) = transition_own x e
transition_own (catenation x y) (Empty.catenation_right e) = transition_own y e
transition_own (union x y) Empty.union_in_left = (tt, tt)
transition_own (union x y) Empty.union_in_right = (tt, tt)
transition_own (union x y) Empty.union_out_left = (tt, tt)
transition_own (union x y) Empty.union_out_right = (tt, tt)
transition_own (union x y) (Empty.union_left e) = transition_own x e
transition_own (union x y) (Empty.union_right e) = transition_own y e
transition_own (star x) Empty.star_in = (tt, tt)
transition_own (star x) Empty.star_past = (tt, tt)
transition_own (star x) Empty.star_back = (tt, tt)
transition_own (star x) Empty.star_out = (tt, tt)
transition_own (star x) (Empty.star_inside e) = transition_own x e
transition_own (below x) (Empty.leaf_past has) = absurd has

-- the code of p leads to the state numbered j exactly where a transition leads there from p
pub leads_exactly : (x : Nested Leaf) (p : State) → Own x p → (j : ℕ)
    → CodeLeads (get_or (codes_of x 0 0) (number x p) 0) (number x p) j
    ↔ ((q : State) × Own x q × (number x q ≡ j) × OwnEmpty byteless x p q)
leads_exactly x p o j = (
  λ b. ⊎_elim (λ g. (g.0, g.1, omega (arith, g.2), g.3)) (λ g. absurd (none_leads _ j g.1))
      (out x 0 0 p o j (same_leads j refl (omega arith) b)),
  λ g. same_leads j refl (omega arith) (along x 0 0 g.3 o g.1 j (omega (arith, g.2))),
)
