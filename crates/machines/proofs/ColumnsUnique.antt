-- The columns of a tree are one only: the same firsts in the same order, and the same column for each byte.
use Rattle.std.specs.Prelude.{ℕ, zero, suc, ◌≤◌, ◌<◌, ◌≡◌, refl, List, length, get_or}
use Rattle.std.proofs.Common.{arith, ap, sym, ◌∙◌, ext_get_or}
use Rattle.std.proofs.Math.Decide.{dec_lt, ℕ_discrete}
use Rattle.language.specs.Tree.{Tree}
use Rattle.tree.specs.Leaf.{Leaf}
use Rattle.machines.specs.Columns.{byte_count, Columned}

module _ {classes : List ℕ} {t : Tree Leaf} {f c g d : List ℕ} (one : Columned classes t f c)
    (other : Columned classes t g d) where
  -- the first of a byte's column is the same
  same_first : (b : ℕ) → b < byte_count → get_or f (get_or c b 0) 0 ≡ get_or g (get_or d b 0) 0
  same_first b byte =
      omega (
        arith,
        one.least b (get_or g (get_or d b 0) 0) byte (other.alike b byte),
        other.least b (get_or f (get_or c b 0) 0) byte (one.alike b byte),
      )

  -- so a first of the one is a first of the other
  first_there : (i : ℕ) → i < length f → get_or g (get_or d (get_or f i 0) 0) 0 ≡ get_or f i 0
  first_there i there =
      sym (same_first (get_or f i 0) (one.bytes i there)) ∙ ap (λ (k : ℕ). get_or f k 0) (one.own i there)

  -- in the same order
  firsts_follow : (i j : ℕ) → i < j → j < length f → get_or d (get_or f i 0) 0 < get_or d (get_or f j 0) 0
  firsts_follow i j before there =
      let k = get_or d (get_or f i 0) 0 in
      let l = get_or d (get_or f j 0) 0 in
      let in_k : k < length g = other.within (get_or f i 0) (one.bytes i (omega arith)) in
      let at-k = first_there i (omega arith) in
      let at-l = first_there j there in
      let less = one.ordered i j before there in
      elim (dec_lt k l) [
        | yes h ↦ h
        | no h ↦ elim (ℕ_discrete k l) [
          | yes same ↦ absurd (omega (arith, ap (λ (n : ℕ). get_or g n 0) same))
          | no apart ↦ absurd (omega (arith, other.ordered l k (omega arith) in_k))
        ]
      ]

  -- and at no lesser place
  no_earlier : (i : ℕ) → i < length f → i ≤ get_or d (get_or f i 0) 0
  no_earlier zero there = omega arith
  no_earlier (suc i) there =
      omega (arith, no_earlier i (omega arith), firsts_follow i (suc i) (omega arith) there)

module _ {classes : List ℕ} {t : Tree Leaf} {f c g d : List ℕ} (one : Columned classes t f c)
    (other : Columned classes t g d) where
  -- a first of the one has the same place among those of the other
  same_place : (i : ℕ) → i < length f → get_or d (get_or f i 0) 0 ≡ i
  same_place i there =
      let j = get_or d (get_or f i 0) 0 in
      let in_j : j < length g = other.within (get_or f i 0) (one.bytes i there) in
      let back : get_or c (get_or g j 0) 0 ≡ i =
      ap (λ (n : ℕ). get_or c n 0) (first_there one other i there) ∙ one.own i there in
      omega (arith, no_earlier one other i there, no_earlier other one j in_j)

  -- so there are no fewer in the other
  no_fewer : (n : ℕ) → length f ≡ n → n ≤ length g
  no_fewer zero none = omega arith
  no_fewer (suc n) some =
      omega (arith, same_place n (omega arith), other.within (get_or f n 0) (one.bytes n (omega arith)))

  -- the same column for each byte
  same_column : (b : ℕ) → b < byte_count → get_or c b 0 ≡ get_or d b 0
  same_column b byte =
      sym (same_place (get_or c b 0) (one.within b byte))
      ∙ ap (λ (n : ℕ). get_or d n 0) (same_first one other b byte)
      ∙ other.own (get_or d b 0) (other.within b byte)

module _ {classes : List ℕ} {t : Tree Leaf} {f c g d : List ℕ} (one : Columned classes t f c)
    (other : Columned classes t g d) where
  -- the same element at each place of the firsts
  same_at : (i : ℕ) → i < length f → get_or f i 0 ≡ get_or g i 0
  same_at i there =
      sym (first_there one other i there) ∙ ap (λ (k : ℕ). get_or g k 0) (same_place one other i there)

  -- the result: the firsts and the columns are told by the tree
  pub columned_once : (f ≡ g) × (c ≡ d)
  columned_once = (
    ext_get_or 0 f g (omega (arith, no_fewer one other (length f) refl, no_fewer other one (length g) refl)) same_at,
    ext_get_or 0 c d (one.all ∙ sym other.all) (λ b there. same_column one other b (omega (arith, one.all))),
  )
