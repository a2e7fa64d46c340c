-- The piece that a child piece hangs below, found by the runs alone: the last piece before it whose run reaches past
-- it.
use Rattle.std.specs.Prelude.{ℕ, zero, suc, ◌+◌, ◌-◌, ◌≤◌, ◌<◌, ◌≡◌, List}
use Rattle.std.proofs.Common.{sym, subst, arith}
use Rattle.std.proofs.Math.Decide.{ℕ_discrete, dec_lt}
use Rattle.language.specs.Nested.{Nested, leaf, catenation, union, star, below}
use Rattle.tree.specs.Leaf.{Leaf}
use Rattle.tables.specs.Words.{width, run}
use Rattle.tables.specs.Plan.{run_of, PieceAt, ChildrenAt}

-- of the pieces before c, k is the last whose run reaches past c
pub record Parent (rows : List ℕ) (c k : ℕ) : Type 0 where
  pub earlier : k < c
  pub reaches : c < k + run_of rows k
  pub between : (m : ℕ) → k < m → m < c → m + run_of rows m ≤ c

-- a search from the child backwards passes pieces whose runs do not reach past it, and the first piece's does
pub not_the_first : (rows : List ℕ) (c at : ℕ) → c < run_of rows 0 → at + run_of rows at ≤ c → 1 ≤ at
not_the_first rows c zero h l = absurd (omega arith)
not_the_first rows c (suc at) h l = omega arith

-- one piece more is passed
pub passed : (rows : List ℕ) (c at : ℕ) → at + run_of rows at ≤ c
    → ((m : ℕ) → at < m → m < c → m + run_of rows m ≤ c) → (m : ℕ) → at - 1 < m → m < c → m + run_of rows m ≤ c
passed rows c at h later m l k = elim (ℕ_discrete m at) [
  | yes e ↦ subst (λ (n : ℕ). n + run_of rows n ≤ c) (sym e) h
  | no e ↦ later m (omega arith) k
]

-- there is one at most
pub parent_unique : {rows : List ℕ} {c k l : ℕ} → Parent rows c k → Parent rows c l → k ≡ l
parent_unique {rows} {c} {k} {l} p q = elim (dec_lt k l) [
  | yes h ↦ absurd (omega (arith, p.between l h q.earlier, q.reaches))
  | no h ↦ elim (dec_lt l k) [
    | yes m ↦ absurd (omega (arith, q.between k m p.earlier, p.reaches))
    | no m ↦ omega arith
  ]
]

-- what P says of the piece that it hangs below and of it holds of each child piece below x. x is a part of piece k, and
-- its child pieces are numbered from new
abbrev pub EveryChild : (ℕ → ℕ → Type 0) → Nested Leaf → (k new : ℕ) → Type 0
EveryChild P (leaf a) k new = Unit {0}
EveryChild P (catenation x y) k new = EveryChild P x k new × EveryChild P y k (new + run x)
EveryChild P (union x y) k new = EveryChild P x k new × EveryChild P y k (new + run x)
EveryChild P (star x) k new = EveryChild P x k new
EveryChild P (below x) k new = P k new × EveryChild P x new (new + 1)

module _ (rows : List ℕ) where
  -- no run of a child piece below x reaches past the last of them
  runs_inside : (x : Nested Leaf) (i new : ℕ) → ChildrenAt rows x i new → (m : ℕ) → new ≤ m → m < new + run x
      → m + run_of rows m ≤ new + run x
  runs_inside (leaf a) i new at m l h = absurd (omega arith)
  runs_inside (catenation x y) i new at m l h = elim (dec_lt m (new + run x)) [
    | yes s ↦ omega (arith, runs_inside x (i + 1) new at.0 m l s)
    | no s ↦ omega (arith, runs_inside y (i + (1 + width x)) (new + run x) at.1 m (omega arith) (omega arith))
  ]
  runs_inside (union x y) i new at m l h = elim (dec_lt m (new + run x)) [
    | yes s ↦ omega (arith, runs_inside x (i + 1) new at.0 m l s)
    | no s ↦ omega (arith, runs_inside y (i + (1 + width x)) (new + run x) at.1 m (omega arith) (omega arith))
  ]
  runs_inside (star x) i new at m l h = runs_inside x (i + 1) new at m l h
  runs_inside (below x) i new at m l h = elim (ℕ_discrete m new) [
    | yes e ↦ subst (λ (n : ℕ). n + run_of rows n ≤ new + (1 + run x)) (sym e) (omega (arith, at.1.ran))
    | no s ↦ omega (arith, runs_inside x 0 (new + 1) at.2 m (omega arith) (omega arith))
  ]

  -- a part of piece k, of which n pieces hang below it from `new` on: the run of k reaches past them, and those of the
  -- pieces before do not reach them
  pub record Hanging (k new n : ℕ) : Type 0 where
    pub after : k < new
    pub inside : new + n ≤ k + run_of rows k
    pub before : (m : ℕ) → k < m → m < new → m + run_of rows m ≤ new

  -- the pieces below a first part, and those below the rest
  hanging_first : {k new : ℕ} (n m : ℕ) → Hanging k new (n + m) → Hanging k new n
  hanging_first n m h = record { after = h.after; inside = omega (arith, h.inside); before = h.before }

  -- those below the rest
  hanging_rest : {k new : ℕ} (x : Nested Leaf) (i m : ℕ) → ChildrenAt rows x i new → Hanging k new (run x + m)
      → Hanging k (new + run x) m
  hanging_rest {k} {new} x i m at h = record {
    after = omega (arith, h.after);
    inside = omega (arith, h.inside);
    before = λ j l s. elim (dec_lt j new) [
      | yes t ↦ omega (arith, h.before j l t)
      | no t ↦ runs_inside x i new at j (omega arith) s
    ];
  }

  -- those below a child piece
  pub hanging_child : {new : ℕ} (x : Nested Leaf) → PieceAt rows x new → Hanging new (new + 1) (run x)
  hanging_child x at =
      record { after = omega arith; inside = omega (arith, at.ran); before = λ m l s. absurd (omega arith) }

  -- so k is the parent of the first of them
  hanging_parent : {k new : ℕ} (n : ℕ) → Hanging k new (1 + n) → Parent rows new k
  hanging_parent n h = record { earlier = h.after; reaches = omega (arith, h.inside); between = h.before }

  module _ (P : ℕ → ℕ → Type 0) where
    -- what holds of each piece and its parent holds at each child piece in the tree
    pub every_of_all : (x : Nested Leaf) (i k new : ℕ) → ChildrenAt rows x i new → Hanging k new (run x)
        → ((c : ℕ) → new ≤ c → c < new + run x → (l : ℕ) → Parent rows c l → P l c) → EveryChild P x k new
    every_of_all (leaf a) i k new at h all = tt
    every_of_all (catenation x y) i k new at h all = (
      every_of_all x (i + 1) k new at.0 (hanging_first (run x) (run y) h) (λ c l m. all c l (omega arith)),
      every_of_all y (i + (1 + width x)) k (new + run x) at.1 (hanging_rest x (i + 1) (run y) at.0 h)
          (λ c l m. all c (omega arith) (omega arith)),
    )
    every_of_all (union x y) i k new at h all = (
      every_of_all x (i + 1) k new at.0 (hanging_first (run x) (run y) h) (λ c l m. all c l (omega arith)),
      every_of_all y (i + (1 + width x)) k (new + run x) at.1 (hanging_rest x (i + 1) (run y) at.0 h)
          (λ c l m. all c (omega arith) (omega arith)),
    )
    every_of_all (star x) i k new at h all = every_of_all x (i + 1) k new at h all
    every_of_all (below x) i k new at h all = (
      all new (omega arith) (omega arith) k (hanging_parent (run x) h),
      every_of_all x 0 new (new + 1) at.2 (hanging_child x at.1) (λ c l m. all c (omega arith) (omega arith)),
    )

    -- and the other way round
    pub all_of_every : (x : Nested Leaf) (i k new : ℕ) → ChildrenAt rows x i new → Hanging k new (run x)
        → EveryChild P x k new
        → (c : ℕ) → new ≤ c → c < new + run x → (l : ℕ) → Parent rows c l → P l c
    all_of_every (leaf a) i k new at h every c l m = absurd (omega arith)
    all_of_every (catenation x y) i k new at h every c l m = elim (dec_lt c (new + run x)) [
      | yes s ↦ all_of_every x (i + 1) k new at.0 (hanging_first (run x) (run y) h) every.0 c l s
      | no s ↦ all_of_every y (i + (1 + width x)) k (new + run x) at.1 (hanging_rest x (i + 1) (run y) at.0 h)
          every.1 c (omega arith) (omega arith)
    ]
    all_of_every (union x y) i k new at h every c l m = elim (dec_lt c (new + run x)) [
      | yes s ↦ all_of_every x (i + 1) k new at.0 (hanging_first (run x) (run y) h) every.0 c l s
      | no s ↦ all_of_every y (i + (1 + width x)) k (new + run x) at.1 (hanging_rest x (i + 1) (run y) at.0 h)
          every.1 c (omega arith) (omega arith)
    ]
    all_of_every (star x) i k new at h every c l m = all_of_every x (i + 1) k new at h every c l m
    all_of_every (below x) i k new at h every c l m = elim (ℕ_discrete c new) [
      | yes e ↦ λ j p. subst (λ (n : ℕ). P j n) (sym e)
          (subst (λ (n : ℕ). P n new)
          (parent_unique (hanging_parent (run x) h) (subst (λ (n : ℕ). Parent rows n j) e p)) every.0)
      | no s ↦ all_of_every x 0 new (new + 1) at.2 (hanging_child x at.1) every.1 c (omega arith) (omega arith)
    ]
