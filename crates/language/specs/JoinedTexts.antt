-- Laws of joined texts: n texts and m texts are n + m texts; the last of them set apart; another language for each.
use Rattle.std.specs.Prelude.{ℕ, suc, ◌≡◌, refl, List, [], ◌++◌}
use Rattle.std.proofs.Common.{ap, sym, ◌∙◌, subst, append_assoc, append-nil}
use Rattle.language.specs.Language.{Repeated}
use Rattle.language.specs.SignedTree.{Joined, none, more}

-- each text of L is one of K
abbrev pub Within : (L K : List ℕ → Type 0) → Type 0
Within L K = (w : List ℕ) → L w → K w

-- texts of L, joined, are texts of K, joined
pub joined_within : {L K : List ℕ → Type 0} {n : ℕ} {w : List ℕ} → Within L K → Joined L n w → Joined K n w
joined_within within none = none
joined_within within (more l j) = more (within _ l) (joined_within within j)

-- zero or more texts likewise
pub repeated_within : {L K : List ℕ → Type 0} {w : List ℕ} → Within L K → Repeated L w → Repeated K w
repeated_within within Repeated.none = Repeated.none
repeated_within within (Repeated.more l r) = Repeated.more (within _ l) (repeated_within within r)

module _ {L : List ℕ → Type 0} where
  -- n texts joined are zero or more texts joined
  pub joined_repeated : {n : ℕ} {w : List ℕ} → Joined L n w → Repeated L w
  joined_repeated none = Repeated.none
  joined_repeated (more l j) = Repeated.more l (joined_repeated j)

  -- zero or more texts joined are some number of texts joined
  pub repeated_joined : {w : List ℕ} → Repeated L w → (n : ℕ) × Joined L n w
  repeated_joined Repeated.none = (0, none)
  repeated_joined (Repeated.more l r) = (suc (repeated_joined r).0, more l (repeated_joined r).1)

  -- a text is one text joined
  pub one_joined : {w : List ℕ} → L w → Joined L 1 w
  one_joined {w} l = subst (Joined L 1) (append-nil w) (more l none)

  -- no text joined is the empty text
  pub joined_none : {w : List ℕ} → Joined L 0 w → w ≡ []
  joined_none none = refl

  -- one text joined is a text
  pub joined_one : {w : List ℕ} → Joined L 1 w → L w
  joined_one (more {u = u} l none) = subst L (sym (append-nil u)) l

  -- one more text at the end
  pub joined_last : {n : ℕ} {u v : List ℕ} → Joined L n u → L v → Joined L (suc n) (u ++ v)
  joined_last none l = one_joined l
  joined_last {v} (more {u = t} {v = u} k j) l =
      subst (Joined L _) (sym (append_assoc t u v)) (more k (joined_last j l))

  -- n + 1 texts are n texts and one more at the end
  pub last_apart : {n : ℕ} {w : List ℕ} → Joined L (suc n) w
      → (u : List ℕ) × (v : List ℕ) × (w ≡ u ++ v) × Joined L n u × L v
  last_apart (more {u = u} l none) = ([], u, append-nil u, none, l)
  last_apart (more {u = t} l (more k j)) =
      let (u, v, same, first, last) = last_apart (more k j) in
      (t ++ u, v, ap (λ (r : List ℕ). t ++ r) same ∙ sym (append_assoc t u v), more l first, last)
