-- The texts of the trees that signs stand for: of `repeated` one or more texts of the operand joined, of `perhaps` none
-- or one, of `times` as many as the count allows.
use Rattle.std.specs.Prelude.{ℕ, zero, suc, ◌+◌, ◌-◌, ◌≤◌, ◌≡◌, refl, List, []}
use Rattle.std.proofs.Common.{sym, subst, append-nil, inl, inr, arith}
use Rattle.std.proofs.Math.Decide.{dec_le}
use Rattle.language.specs.Tree.{Tree, leaf, catenation}
use Rattle.language.specs.Meaning.{Meaning}
use Rattle.language.specs.Language.{Language}
use Rattle.language.specs.SignedTree.{Joined, none, more}
use Rattle.language.specs.StandsFor.{followed, repeated, perhaps, times}
use Rattle.language.specs.JoinedTexts.{Within, joined_repeated, repeated_joined, one_joined, joined_none, joined_one, joined_last, last_apart}
use Rattle.language.specs.CountedTexts.{Between}

module _ {A : Type 0} (M : Meaning A) (x : Tree A) where
  -- one or more texts of x are a text of `repeated x`
  pub more_repeated : (k : ℕ) (w : List ℕ) → 1 ≤ k → Joined (Language M x) k w → Language M (repeated x) w
  more_repeated zero w some j = absurd (omega arith)
  more_repeated (suc k) w some (more {u} {v} l j) = (u, v, refl, l, joined_repeated j)

  -- and each of its texts is one or more texts of x
  pub repeated_more : (w : List ℕ) → Language M (repeated x) w → (k : ℕ) × (1 ≤ k) × Joined (Language M x) k w
  repeated_more w (u, v, same, l, r) =
      let (k, j) = repeated_joined r in
      (suc k, omega arith, subst (Joined (Language M x) (suc k)) (sym same) (more l j))

  -- x, then n times x, has n + 1 texts of x joined
  all_followed : (n : ℕ) (w : List ℕ) → Joined (Language M x) (suc n) w → Language M (followed x n x) w
  all_followed zero w j = joined_one j
  all_followed (suc n) w j =
      let (u, v, same, first, last) = last_apart j in
      (u, v, same, all_followed n u first, last)

  -- and no other texts
  followed_all : (n : ℕ) (w : List ℕ) → Language M (followed x n x) w → Joined (Language M x) (suc n) w
  followed_all zero w l = one_joined l
  followed_all (suc n) w (u, v, same, first, last) =
      subst (Joined (Language M x) (suc (suc n))) (sym same) (joined_last (followed_all n u first) last)

module _ {A : Type 0} (M : Meaning A) (empty : A) (has : M.HasEmpty empty) (x : Tree A) where
  -- at most one text of x is a text of `perhaps x`
  pub few_perhaps : (k : ℕ) (w : List ℕ) → k ≤ 1 → Joined (Language M x) k w → Language M (perhaps empty x) w
  few_perhaps zero w few j = inr (inr (joined_none j, has))
  few_perhaps (suc zero) w few j = inl (joined_one j)
  few_perhaps (suc (suc k)) w few j = absurd (omega arith)

  -- where t has from a to b texts of x joined, t catenated with `perhaps x` has from a to b + 1
  one_more : (t : Tree A) (a b : ℕ) → a ≤ b → Within (Between (Language M x) a b) (Language M t)
      → Within (Between (Language M x) a (suc b)) (Language M (catenation t (perhaps empty x)))
  one_more t a b order first w (k, least, most, j) = by_number k least most j (dec_le k b)
    where
      by_number : (k : ℕ) → a ≤ k → k ≤ suc b → Joined (Language M x) k w → Dec (k ≤ b)
          → Language M (catenation t (perhaps empty x)) w
      by_number k least most j (yes few) =
          (w, [], sym (append-nil w), first w (k, least, few, j), inr (inr (refl, has)))
      by_number zero least most j (no all) = absurd (omega arith)
      by_number (suc k) least most j (no all) =
          let (u, v, same, before, last) = last_apart j in
          (u, v, same, first u (k, omega arith, omega arith, before), inl last)

  -- so t followed by n times `perhaps x` has from a to b + n
  few_followed : (t : Tree A) (a b n : ℕ) → a ≤ b → Within (Between (Language M x) a b) (Language M t)
      → Within (Between (Language M x) a (b + n)) (Language M (followed t n (perhaps empty x)))
  few_followed t a b zero order first w c = first w (c.0, c.1, omega arith, c.3)
  few_followed t a b (suc n) order first w c =
      one_more (followed t n (perhaps empty x)) a (b + n) (omega arith) (few_followed t a b n order first) w
      (c.0, c.1, omega arith, c.3)

  -- as many texts of x as the count allows are a text of `times`
  pub between_times : (fewest most : ℕ) → fewest ≤ most → 1 ≤ most
      → Within (Between (Language M x) fewest most) (Language M (times empty fewest most x))
  between_times zero most order some w (k, least, few, j) =
      few_followed (perhaps empty x) 0 1 (most - 1) (omega arith) (λ u (i, _, few, j). few_perhaps i u few j) w
      (k, least, omega arith, j)
  between_times (suc m) most order some w (k, least, few, j) =
      few_followed (followed x m x) (suc m) (suc m) (most - suc m) (omega arith) exactly w (k, least, omega arith, j)
    where
      exactly : Within (Between (Language M x) (suc m) (suc m)) (Language M (followed x m x))
      exactly u (i, least, few, j) = all_followed M x m u (subst (λ (i : ℕ). Joined (Language M x) i u) (omega arith) j)

module _ {A : Type 0} (M : Meaning A) (empty : A) (Takes-none : (b : ℕ) → M.Takes empty b → ⊥) (x : Tree A) where
  -- the leaf `empty` has no text but the empty one
  only_empty : (w : List ℕ) → Language M (leaf empty) w → w ≡ []
  only_empty w (inl (b, _, takes)) = absurd (Takes-none b takes)
  only_empty w (inr (same, _)) = same

  -- a text of `perhaps x` is at most one text of x
  pub perhaps_few : (w : List ℕ) → Language M (perhaps empty x) w → Between (Language M x) 0 1 w
  perhaps_few w (inl l) = (1, omega arith, omega arith, one_joined l)
  perhaps_few w (inr e) = (0, omega arith, omega arith, rw (only_empty w e) none)

  -- where each text of t is from a to b texts of x joined, each of t followed by n times `perhaps x` is from a to b + n
  followed_few : (t : Tree A) (a b n : ℕ) → Within (Language M t) (Between (Language M x) a b)
      → Within (Language M (followed t n (perhaps empty x))) (Between (Language M x) a (b + n))
  followed_few t a b zero first w l =
      let (k, least, most, j) = first w l in
      (k, least, omega arith, j)
  followed_few t a b (suc n) first w (u, v, same, before, inl last) =
      let (k, least, most, j) = followed_few t a b n first u before in
      (suc k, omega arith, omega arith, rw same (joined_last j last))
  followed_few t a b (suc n) first w (u, v, same, before, inr e) =
      let (k, least, most, j) = followed_few t a b n first u before in
      (k, least, omega arith, rw (same, only_empty v e, append-nil u) j)

  -- each text of `times` is as many texts of x as the count allows
  pub times_between : (fewest most : ℕ) → fewest ≤ most → 1 ≤ most
      → Within (Language M (times empty fewest most x)) (Between (Language M x) fewest most)
  times_between zero most order some w l =
      let (k, least, few, j) = followed_few (perhaps empty x) 0 1 (most - 1) perhaps_few w l in
      (k, least, omega arith, j)
  times_between (suc m) most order some w l =
      let (k, least, few, j) = followed_few (followed x m x) (suc m) (suc m) (most - suc m) exactly w l in
      (k, least, omega arith, j)
    where
      exactly : Within (Language M (followed x m x)) (Between (Language M x) (suc m) (suc m))
      exactly u l = (suc m, omega arith, omega arith, followed_all M x m u l)
