-- Why passes close the word of a piece: what is marked after them can be reached, and all that can be is marked.
use Rattle.std.specs.Prelude.{ℕ, zero, suc, ◌*◌, ◌%◌, ◌^◌, ◌≤◌, ◌<◌, ◌≡◌, refl, ◌⊎◌, List, get_or}
use Rattle.std.proofs.Common.{sym, ap, ◌∙◌, subst, subst₂, inl, inr, ⊎_elim, add-zero, mod-eq_of_lt, arith}
use Rattle.std.specs.Int.Bits.{bit_or, bit_and, bit_xor, xor_add_and}
use Rattle.language.specs.Automaton.{State, PathOf, here, step}
use Rattle.language.specs.Nested.{Nested, OwnEmpty}
use Rattle.language.specs.Simulation.{then}
use Rattle.tree.specs.Limits.{most_states}
use Rattle.tree.specs.Leaf.{Leaf, byteless}
use Rattle.tables.specs.Words.{Bit, width, Own, number}
use Rattle.tables.specs.Plan.{row_words, leads_mask, jumps_mask, target_of, codes_of, Closes}
use Rattle.closing.specs.BitsOfWords.Bits.{
  dec_bit,
  bit_of_or,
  bit_of_and,
  bit_below,
  below_of_bits,
  same_bits,
  none_common,
}
use Rattle.closing.specs.BitsOfWords.Numbers.{number_below, number_onto, number_injective}
use Rattle.closing.specs.WordClosed.{closes_none}
use Rattle.closing.specs.Passes.RunOn.{RanOn, bit_without}
use Rattle.closing.specs.Passes.Jumping.{Jumped}
use Rattle.closing.specs.Passes.Laid.{Lays}
use Rattle.closing.specs.Passes.Transitions.{CodeLeads, leads_exactly, transition_own}

-- the states that can be reached from those of w: along states that lead on, and by jumps
pub data Got (on jumps : ℕ) (rows : List ℕ) (piece w : ℕ) : ℕ → Type 0 where
  marked : {i : ℕ} → Bit w i → Got on jumps rows piece w i
  led : {i j : ℕ} → Got on jumps rows piece w i → Bit on i → suc i ≡ j → Got on jumps rows piece w j
  jumped : {i j : ℕ} → Got on jumps rows piece w i → Bit jumps i → target_of rows piece i ≡ j
      → Got on jumps rows piece w j

-- r has the marks of w and those that passes have made of them; the jumps in `left` have not been taken, and those of
-- the states in `done` need not be
pub record PassedSoFar (on jumps : ℕ) (rows : List ℕ) (piece w done left r : ℕ) : Type 0 where
  pub kept : (i : ℕ) → Bit w i → Bit r i
  pub reached : (i : ℕ) → Bit r i → Got on jumps rows piece w i
  pub run : (i : ℕ) → Bit r i → Bit on i → Bit r (suc i)
  pub to_take : (i : ℕ) → Bit left i → Bit jumps i
  pub taken : (i : ℕ) → Bit jumps i → Bit left i ⊎ (Bit done i ⊎ Bit r (target_of rows piece i))

-- carrying marks on keeps them
ran_keeps : {w on r : ℕ} → RanOn w on r → (i : ℕ) → Bit w i → Bit r i
ran_keeps ran zero b = ran.first.1 b
ran_keeps ran (suc i) b = (ran.later i).1 (inl b)

module _ {on jumps : ℕ} {rows : List ℕ} {piece w : ℕ} where
  -- marks that can be reached, carried on, can be
  ran_reached : {v r : ℕ} → RanOn v on r → ((i : ℕ) → Bit v i → Got on jumps rows piece w i)
      → (i : ℕ) → Bit r i → Got on jumps rows piece w i
  ran_reached ran reached zero b = reached zero (ran.first.0 b)
  ran_reached ran reached (suc i) b =
      ⊎_elim (λ c. reached (suc i) c) (λ (leads, c). led (ran_reached ran reached i c) leads refl) ((ran.later i).0 b)

  -- before the first pass
  pub passing_none : {done r : ℕ} → RanOn w on r
      → PassedSoFar on jumps rows piece w done (bit_xor jumps (bit_and done jumps)) r
  passing_none {done} ran = record {
    kept = ran_keeps ran;
    reached = ran_reached ran (λ i b. marked b);
    run = λ i b leads. (ran.later i).1 (inr (leads, b));
    to_take = λ i b. ((bit_without jumps done i).0 b).0;
    taken = λ i b. elim (dec_bit done i) [
      | yes d ↦ inr (inl d)
      | no d ↦ inl ((bit_without jumps done i).1 (b, d))
    ];
  }

  -- one pass more
  pub passing_more : {done left r t r' : ℕ} → PassedSoFar on jumps rows piece w done left r
      → Jumped rows piece (bit_and r left) 0 t
      → RanOn (bit_or r t) on r' → PassedSoFar on jumps rows piece w done (bit_xor left (bit_and r left)) r'
  passing_more {left = left} {r = r} {t = t} {r' = r'} so_far jumps-of ran = record {
    kept = λ i b. keeps i (so_far.kept i b);
    reached = ran_reached ran (λ i b. ⊎_elim (so_far.reached i) (by_jump i) ((bit_of_or r t i).0 b));
    run = λ i b leads. (ran.later i).1 (inr (leads, b));
    to_take = λ i b. so_far.to_take i ((bit_without left r i).0 b).0;
    taken = λ i b. ⊎_elim
        (λ l. elim (dec_bit r i) [
          | yes m ↦ inr (inr (ran_keeps ran _ ((bit_of_or r t _).1 (inr ((jumps-of.exactly _).1
              (i, (bit_of_and r left i).1 (m, l), λ z. absurd (no_bit i z), refl))))))
          | no m ↦ inl ((bit_without left r i).1 (l, m))
        ])
        (⊎_elim (λ d. inr (inl d)) (λ m. inr (inr (keeps _ m))))
        (so_far.taken i b);
  }
    where
      keeps : (i : ℕ) → Bit r i → Bit r' i
      keeps i b = ran_keeps ran i ((bit_of_or r t i).1 (inl b))

      no_bit : (i : ℕ) → Bit 0 i → ⊥
      no_bit i z = none_common 0 0 refl i z z

      by_jump : (j : ℕ) → Bit t j → Got on jumps rows piece w j
      by_jump j b =
          let (i, m, _, at) = (jumps-of.exactly j).0 b in
          let both = (bit_of_and r left i).0 m in
          jumped (so_far.reached i both.0) (so_far.to_take i both.1) at

-- fewer jumps are left after a pass that takes some
pub fewer_left : (left r : ℕ) → (bit_and r left ≡ 0 → ⊥) → bit_xor left (bit_and r left) < left
fewer_left left r some = omega (arith, xor_add_and left (bit_and r left), within, some)
  where
    within : bit_and left (bit_and r left) ≡ bit_and r left
    within = same_bits _ _ (λ i. (
      λ b. ((bit_of_and left (bit_and r left) i).0 b).1,
      λ b. (bit_of_and left (bit_and r left) i).1 (((bit_of_and r left i).0 b).1, b),
    ))

module _ {rows : List ℕ} {piece : ℕ} {x : Nested Leaf} (narrow : width x ≤ most_states) (laid : Lays rows x piece)
  where
    -- the masks of x's top piece
    abbrev on : ℕ
    on = leads_mask rows piece

    abbrev jumps : ℕ
    jumps = jumps_mask rows piece

    -- no addition of them overflows
    pub on_small : on < 2 ^ 63
    on_small = below_of_bits 63 on (λ i b. omega (arith, ((laid.coded.leading i).0 b).0))

    -- a path from a state of w leads to the state numbered j
    record LedByPath (w j : ℕ) : Type 0 where
      from : State
      to : State
      from_own : Own x from
      to_own : Own x to
      from_marked : Bit w (number x from)
      numbered : number x to ≡ j
      way : PathOf (OwnEmpty byteless x) from to

    -- one transition more
    came_on : {w i j : ℕ} → LedByPath w i → CodeLeads (get_or (codes_of x 0 0) i 0) i j → LedByPath w j
    came_on {w} {i} {j} came leads =
        let (q, own-q, numbered, past) = (leads_exactly x came.to came.to_own j).0
        (subst (λ (k : ℕ). CodeLeads (get_or (codes_of x 0 0) k 0) k j) (sym came.numbered) leads) in
        record {
          from = came.from;
          to = q;
          from_own = came.from_own;
          to_own = own-q;
          from_marked = came.from_marked;
          numbered = numbered;
          way = then came.way (step past here);
        }

    -- what can be reached by the masks, paths lead to
    came : {w j : ℕ} → w < 2 ^ width x → Got on jumps rows piece w j → LedByPath w j
    came {w} small (marked {i = i} b) =
        let (p, own-p, numbered) = number_onto x i (bit_below small b) in
        record {
          from = p;
          to = p;
          from_own = own-p;
          to_own = own-p;
          from_marked = subst (Bit w) (sym numbered) b;
          numbered = numbered;
          way = here;
        }
    came small (led {i = i} got leads e) =
        came_on (came small got) (inl (((laid.coded.leading i).0 leads).1, omega (arith, e)))
    came small (jumped {i = i} {j = j} got jumping e) =
        let (inside, says) = (laid.coded.jumping i).0 jumping in
        came_on (came small got) (inr (says, sym e ∙ laid.coded.target i inside says))

    module _ {w done left r : ℕ} (small : w < 2 ^ width x)
        (passing : PassedSoFar on jumps rows piece w done left r) (ended : bit_and r left ≡ 0)
        (closed-before : Closes x done done) (within : (i : ℕ) → Bit done i → Bit w i) where
      -- a transition leads from a marked state to a marked one
      settled : (p q : State) → OwnEmpty byteless x p q → Bit r (number x p) → Bit r (number x q)
      settled p q past b =
          let (own-p, own-q) = transition_own x past in
          let i = number x p in
          let low = number_below x p own-p in
          ⊎_elim
          (λ (leads, e). subst (Bit r) (omega (arith, e)) (passing.run i b ((laid.coded.leading i).1 (low, leads))))
          (λ (jumping, e). ⊎_elim
          (λ l. absurd (none_common r left ended i b l))
          (⊎_elim
          (λ d. passing.kept _ (within _ ((closed-before.exactly q own-q).1 (p, own-p, d, step past here))))
          (λ m. subst (Bit r) (laid.coded.target i low jumping ∙ sym e) m))
          (passing.taken i ((laid.coded.jumping i).1 (low, jumping))))
          ((leads_exactly x p own-p (number x q)).1 (q, own-q, refl, past))

      along : {p q : State} → PathOf (OwnEmpty byteless x) p q → Bit r (number x p) → Bit r (number x q)
      along here b = b
      along (step {p = p} {q = q} past way) b = along way (settled p q past b)

      -- so the word is closed
      pub passed_closes : Closes x w r
      passed_closes = record {
        exactly = λ q o. (
          λ b. let c = came small (passing.reached (number x q) b) in (
            c.from,
            c.from_own,
            c.from_marked,
            subst (PathOf (OwnEmpty byteless x) c.from) (number_injective x c.to q c.to_own o c.numbered)
                c.way,
          ),
          λ (p, own-p, b, way). along way (passing.kept (number x p) b),
        );
        clean = below_of_bits (width x) r (λ j b. let c = came small (passing.reached j b) in
            omega (arith, number_below x c.to c.to_own, c.numbered));
      }

-- r closes the word, for every tree whose piece this is, where the part `done` of the word was closed before
pub record ClosesAfter (rows : List ℕ) (piece word done r : ℕ) : Type 0 where
  pub closes : (x : Nested Leaf) → width x ≤ most_states → Lays rows x piece → word < 2 ^ width x
      → Closes x done done → ((i : ℕ) → Bit done i → Bit word i) → Closes x word r

-- the passes as they are made: no bit of the first mask is lost in a remainder
pub closed_by_passes : (rows : List ℕ) (piece w done on jumps left r : ℕ)
    → on ≡ get_or rows (row_words * piece) 0 % 2 ^ 63 → jumps ≡ jumps_mask rows piece
    → PassedSoFar on jumps rows piece w done left r → bit_and r left ≡ 0
    → ClosesAfter rows piece w done r
closed_by_passes rows piece w done on jumps left r e f passing ended = record {
  closes = λ x narrow laid small closed-before within.
      passed_closes narrow laid small
      (subst₂ (λ (m n : ℕ). PassedSoFar m n rows piece w done left r)
      (e ∙ ap (λ (n : ℕ). get_or rows n 0 % 2 ^ 63) (sym (add-zero (row_words * piece)))
      ∙ mod-eq_of_lt (on_small narrow laid)) f passing)
      ended closed-before within;
}

-- where nothing was closed before
pub closed_alone : {rows : List ℕ} {piece word r : ℕ} → ClosesAfter rows piece word 0 r
    → (x : Nested Leaf) → width x ≤ most_states → Lays rows x piece → word < 2 ^ width x → Closes x word r
closed_alone closes x narrow laid small =
    closes.closes x narrow laid small (closes_none x) (λ i b. absurd (none_common 0 0 refl i b b))
