-- Two sweeps of a cut automaton, from any marks, are the closing: after them the marks model the plain simulation's.
use Rattle.std.specs.Prelude.{ℕ, ◌≡◌, refl, ◌⊎◌}
use Rattle.std.proofs.Common.{inl}
use Rattle.std.proofs.Math.Logic.Iff
use Rattle.std.proofs.Math.Logic.{inr, ⊎_elim}
use Rattle.language.specs.Automaton.{start, States, Closed, Started, Moved, Stepped}
use Rattle.language.specs.Meaning.{Meaning}
use Rattle.language.specs.Nested.{Nested, whole, Has, origin, Models, Move, Sweep}
use Rattle.language.specs.Simulation.{◌⊆◌, closed_keeps, closed_settled, closed_least}
use Rattle.language.specs.Settled.{Settled, settled_same}
use Rattle.language.specs.StateWalk.{walked_keeps, walked_more}
use Rattle.language.specs.TwoWalks.{two_walks_settle}
use Rattle.language.proofs.Visits.{sweep_walked, sweep_within}
use Rattle.language.specs.Copies.{Full, copy_of_origin, copy_has, start_full, empty_full, reads_full, reading_reads}
use Rattle.language.proofs.Copies.{origin_settled}
use Rattle.language.specs.Same.{MoreIn}
use Rattle.language.proofs.Same.{sweep_same, models_same}
use Rattle.language.specs.SameEmpty.{SameEmpty}
use Rattle.language.proofs.SameEmpty.{closed_same}

module _ {A : Type 0} (M : Meaning A) (x : Nested A) where
  -- two sweeps lose no mark
  sweeps_keep : (Y : States) → Y ⊆ Sweep M x (Sweep M x Y)
  sweeps_keep Y q m = sweep_walked M x _ q (walked_keeps M x _ q (sweep_walked M x Y q (walked_keeps M x Y q m)))

  -- two sweeps stay within each settled set that has the marks
  sweeps_within : (Y Z : States) → Settled M x Z → Y ⊆ Z → Sweep M x (Sweep M x Y) ⊆ Z
  sweeps_within Y Z settled within = sweep_within M x (Sweep M x Y) Z settled (sweep_within M x Y Z settled within)

  -- two sweeps are two walks, which settle
  sweeps_settle : (Y : States) → Settled M x (Sweep M x (Sweep M x Y))
  sweeps_settle Y =
      settled_same M x
      (λ q. (
        λ m. sweep_walked M x _ q (walked_more M x _ _ (sweep_walked M x Y) q m),
        sweeps_within Y _ (two_walks_settle M x Y) (λ p m. walked_keeps M x _ p (walked_keeps M x Y p m)) q,
      ))
      (two_walks_settle M x Y)

  -- so they model the closing of X, where the marks Y lie among the copies of that closing, and every copy of a state
  -- of X is marked
  sweeps_close : (Y X : States) → Y ⊆ (λ q. Closed M (whole x) X (origin x q)) → X ⊆ Full x (Sweep M x (Sweep M x Y))
      → Models x (Sweep M x (Sweep M x Y)) (Closed M (whole x) X)
  sweeps_close Y X among full q has = (
    sweeps_within Y (λ p. Closed M (whole x) X (origin x p))
        (origin_settled M x _ (closed_settled M (whole x) X)) among q,
    λ c. closed_least M (whole x) {X = X} {Y = Full x (Sweep M x (Sweep M x Y))}
        (λ p q e. empty_full M x _ (sweeps_settle Y) e)
        full (origin x q) c q (copy_of_origin x q has),
  )

-- the result, from the start
pub sweeps_start : {A : Type 0} (M : Meaning A) (x : Nested A)
    → Models x (Sweep M x (Sweep M x (λ q. q ≡ start))) (Started M (whole x))
sweeps_start M x = sweeps_close M x _ _ (λ q begins. rw begins (closed_keeps M (whole x) _ start refl))
    (λ p begins. rw begins (start_full M x _ (sweeps_settle M x _) (sweeps_keep M x _ start refl)))

-- after a move along the byte b, where some of the closing is done already: from any marks that have the moved ones and
-- lie within each settled set that has these, as far as there are states. The bytes are read by the meaning N, and the
-- sweeps close by a meaning M that gives the empty text to the same leaves
module _ {A : Type 0} (M N : Meaning A) (same : SameEmpty M N) (b : ℕ) (x : Nested A) (marks X Y : States)
    (models : Models x marks X) (more : MoreIn (Has x) (Move N b x marks) Y)
    (within : (Z : States) → Settled M x Z → MoreIn (Has x) (Move N b x marks) Z → MoreIn (Has x) Y Z) where
  -- those marks at the states that there are, and the moved ones
  wider : States
  wider q = Move N b x marks q ⊎ (Has x q × Y q)

  -- what a byte moves to, closed by M
  abbrev Arrived : States
  Arrived = Closed M (whole x) (Moved N (whole x) b X)

  -- what is moved lies among the copies of it
  arrives : Move N b x marks ⊆ (λ q. Arrived (origin x q))
  arrives q (p, m, r) = closed_keeps M (whole x) _ (origin x q) (
    origin x p,
    (models p (reading_reads N b r).0).0 m,
    (reading_reads N b r).1,
  )

  -- two sweeps model it
  arrived : Models x (Sweep M x (Sweep M x Y)) Arrived
  unfolding wider
  arrived =
      models_same x Arrived
      (sweep_same M x (sweep_same M x (λ q has. (λ y. inr (has, y), ⊎_elim (more q has) (λ (_, y). y)))))
      (sweeps_close M x wider _
      (λ q. ⊎_elim (arrives q)
      (λ (has, y). within (λ q. Arrived (origin x q))
      (origin_settled M x _ (closed_settled M (whole x) _)) (λ p _. arrives p) q has y))
      (λ q (p, m, e). reads_full M N b x marks _ (sweeps_settle M x _) (λ p q r m. sweeps_keep M x _ q (inl (p, m, r)))
      e
      (λ o c. (models o (copy_has c).0).1 (rw (copy_has c).1 m))))

  pub sweeps_step_closed : Models x (Sweep M x (Sweep M x Y)) (Stepped N (whole x) b X)
  sweeps_step_closed q has = Iff.trans (arrived q has) (closed_same M N same (whole x) _ (origin x q))

-- and after the move alone
pub sweeps_step : {A : Type 0} (M : Meaning A) (b : ℕ) (x : Nested A) (marks X : States) → Models x marks X
    → Models x (Sweep M x (Sweep M x (Move M b x marks))) (Stepped M (whole x) b X)
sweeps_step M b x marks X models = sweeps_step_closed M M (λ a. Iff.rfl) b x marks X (Move M b x marks) models
    (λ q has m. m) (λ Z settled within. within)
