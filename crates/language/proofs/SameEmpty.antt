-- Closing asks of a meaning only which leaves have the empty text: two meanings that give it to the same leaves close
-- alike, whatever bytes their leaves take.
use Rattle.std.specs.Prelude.{◌≡◌, ◌↔◌}
use Rattle.language.specs.Tree.{Tree}
use Rattle.language.specs.Meaning.{Meaning}
use Rattle.language.specs.Automaton.{State, start, States, Empty, PathOf, here, step, Closed, Started}
use Rattle.language.specs.Simulation.{◌⊆◌}
use Rattle.language.specs.SameEmpty.{SameEmpty}

module _ {A : Type 0} (M N : Meaning A) (kept : (a : A) → M.HasEmpty a → N.HasEmpty a) where
  -- the empty transitions by M are among those by N, where each leaf with the empty text keeps it
  empty_kept : {t : Tree A} {p q : State} → Empty M t p q → Empty N t p q
  empty_kept (Empty.leaf_past has) = Empty.leaf_past (kept _ has)
  empty_kept Empty.catenation_in = Empty.catenation_in
  empty_kept Empty.catenation_over = Empty.catenation_over
  empty_kept Empty.catenation_out = Empty.catenation_out
  empty_kept Empty.union_in_left = Empty.union_in_left
  empty_kept Empty.union_in_right = Empty.union_in_right
  empty_kept Empty.union_out_left = Empty.union_out_left
  empty_kept Empty.union_out_right = Empty.union_out_right
  empty_kept Empty.star_in = Empty.star_in
  empty_kept Empty.star_past = Empty.star_past
  empty_kept Empty.star_out = Empty.star_out
  empty_kept Empty.star_back = Empty.star_back
  empty_kept (Empty.catenation_left e) = Empty.catenation_left (empty_kept e)
  empty_kept (Empty.catenation_right e) = Empty.catenation_right (empty_kept e)
  empty_kept (Empty.union_left e) = Empty.union_left (empty_kept e)
  empty_kept (Empty.union_right e) = Empty.union_right (empty_kept e)
  empty_kept (Empty.star_inside e) = Empty.star_inside (empty_kept e)

  -- so are the paths
  path_kept : {t : Tree A} {p q : State} → PathOf (Empty M t) p q → PathOf (Empty N t) p q
  path_kept here = here
  path_kept (step e path) = step (empty_kept e) (path_kept path)

  -- and what is closed
  closed_kept : (t : Tree A) (X : States) → Closed M t X ⊆ Closed N t X
  closed_kept t X q (p, m, path) = (p, m, path_kept path)

module _ {A : Type 0} (M N : Meaning A) (same : SameEmpty M N) where
  -- the result: they close alike
  pub closed_same : (t : Tree A) (X : States) (q : State) → Closed M t X q ↔ Closed N t X q
  closed_same t X q = (closed_kept M N (λ a. (same a).0) t X q, closed_kept N M (λ a. (same a).1) t X q)

  -- and begin alike
  pub started_same : (t : Tree A) (q : State) → Started M t q ↔ Started N t q
  started_same t q = closed_same t (λ p. p ≡ start) q
