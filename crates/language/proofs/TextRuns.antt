-- What lies in the language is accepted by the plain simulation: each text has a run, and the simulation follows runs.
use Rattle.std.specs.Prelude.{ℕ, refl, List, [], ◌∷◌, ◌++◌}
use Rattle.std.proofs.Common.{inl, inr}
use Rattle.language.specs.Tree.{Tree, leaf, catenation, union, star}
use Rattle.language.specs.Meaning.{Meaning}
use Rattle.language.specs.Language.{Language, Repeated, none, more}
use Rattle.language.specs.Automaton.{
  State,
  start,
  accepting,
  left,
  right,
  States,
  Empty,
  Reads,
  Moved,
  After,
  Accepts,
}
use Rattle.language.specs.Simulation.{SettledBy, closed_keeps, closed_settled}

module _ {A : Type 0} (M : Meaning A) where
  -- a run of the automaton: empty and reading transitions in turn, which read the text
  pub data Run (t : Tree A) : State → List ℕ → State → Type 0 where
    done : {p : State} → Run t p [] p
    empty : {p q r : State} {w : List ℕ} → Empty M t p q → Run t q w r → Run t p w r
    reads : {b : ℕ} {p q r : State} {w : List ℕ} → Reads M b t p q → Run t q w r → Run t p (b ∷ w) r

  -- runs join
  run_then : {t : Tree A} {p q r : State} {u v : List ℕ} → Run t p u q → Run t q v r → Run t p (u ++ v) r
  run_then done rest = rest
  run_then (empty e run) rest = empty e (run_then run rest)
  run_then (reads e run) rest = reads e (run_then run rest)

  -- a run goes on by an empty transition
  run_out : {t : Tree A} {p q r : State} {w : List ℕ} → Run t p w q → Empty M t q r → Run t p w r
  run_out done e = empty e done
  run_out (empty d run) e = empty d (run_out run e)
  run_out (reads d run) e = reads d (run_out run e)

  -- s stands at e in t: its transitions are transitions of t
  record StandsInside (s t : Tree A) (e : State → State) : Type 0 where
    empties : (p q : State) → Empty M s p q → Empty M t (e p) (e q)
    readings : (b : ℕ) (p q : State) → Reads M b s p q → Reads M b t (e p) (e q)

  -- so its runs are runs of t
  run_inside : {s t : Tree A} {e : State → State} {p q : State} {w : List ℕ} → StandsInside s t e → Run s p w q
      → Run t (e p) w (e q)
  run_inside i done = done
  run_inside i (empty {p} {q} e run) = empty (i.empties p q e) (run_inside i run)
  run_inside i (reads {b} {p} {q} e run) = reads (i.readings b p q e) (run_inside i run)

  in_catenation_left : (s t : Tree A) → StandsInside s (catenation s t) left
  in_catenation_left s t = record { empties = λ p q. Empty.catenation_left; readings = λ b p q. Reads.catenation_left }

  in_catenation_right : (s t : Tree A) → StandsInside t (catenation s t) right
  in_catenation_right s t =
      record { empties = λ p q. Empty.catenation_right; readings = λ b p q. Reads.catenation_right }

  in_union_left : (s t : Tree A) → StandsInside s (union s t) left
  in_union_left s t = record { empties = λ p q. Empty.union_left; readings = λ b p q. Reads.union_left }

  in_union_right : (s t : Tree A) → StandsInside t (union s t) right
  in_union_right s t = record { empties = λ p q. Empty.union_right; readings = λ b p q. Reads.union_right }

  in_star : (s : Tree A) → StandsInside s (star s) left
  in_star s = record { empties = λ p q. Empty.star_inside; readings = λ b p q. Reads.star_inside }

  -- through a child: in, a run of the child, out
  through : {s t : Tree A} {e : State → State} {p q : State} {w : List ℕ} → StandsInside s t e → Empty M t p (e start)
      → Run s start w accepting → Empty M t (e accepting) q → Run t p w q
  through i enter run leave = empty enter (run_out (run_inside i run) leave)

  -- round a star: from where one can enter or leave it, a run for each text joined
  round : (s : Tree A) → ((w : List ℕ) → Language M s w → Run s start w accepting) → (p : State) →
      Empty M (star s) p (left start) → Empty M (star s) p accepting → {w : List ℕ} → Repeated (Language M s) w
      → Run (star s) p w accepting
  round s runs p enter leave none = empty leave done
  round s runs p enter leave (more {u} l rest) =
      run_then (empty enter (run_inside (in_star s) (runs u l)))
      (round s runs (left accepting) Empty.star_back Empty.star_out rest)

  -- each text of the language has a run from the start to the accepting state
  language_run : (t : Tree A) (w : List ℕ) → Language M t w → Run t start w accepting
  language_run (leaf a) w (inl (b, one, takes)) = rw one (reads (Reads.at_leaf takes) done)
  language_run (leaf a) w (inr (nothing, has)) = rw nothing (empty (Empty.leaf_past has) done)
  language_run (catenation s t) w (u, v, joined, first, second) =
      rw joined (run_then
      (through (in_catenation_left s t) Empty.catenation_in (language_run s u first) Empty.catenation_over)
      (run_out (run_inside (in_catenation_right s t) (language_run t v second)) Empty.catenation_out))
  language_run (union s t) w (inl l) = through (in_union_left s t) Empty.union_in_left (language_run s w l)
      Empty.union_out_left
  language_run (union s t) w (inr l) = through (in_union_right s t) Empty.union_in_right (language_run t w l)
      Empty.union_out_right
  language_run (star s) w l = round s (language_run s) start Empty.star_in Empty.star_past l

  -- a run from marks that are closed is followed by the simulation
  run_after : {t : Tree A} {p q : State} {w : List ℕ} {X : States} → SettledBy (Empty M t) X → X p → Run t p w q
      → After M t w X q
  run_after settled x done = x
  run_after settled x (empty {p} {q} e run) = run_after settled (settled p q e x) run
  run_after {t} {X} settled x (reads {b} {p} {q} e run) =
      run_after (closed_settled M t _) (closed_keeps M t (Moved M t b X) q (p, x, e)) run

  -- what lies in the language is accepted: follow its run from the closed start
  pub language_accepted : (t : Tree A) (w : List ℕ) → Language M t w → Accepts M t w
  language_accepted t w l = run_after (closed_settled M t _) (closed_keeps M t _ start refl) (language_run t w l)
