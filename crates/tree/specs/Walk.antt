-- Pieces are numbered in the order in which a walk (node, left, right) first meets them.
use Rattle.std.specs.Prelude.{ℕ, suc, ◌+◌, ◌-◌, ◌≤◌, ◌<◌, ◌≡◌, refl, Bool, true, false, List, [], ◌∷◌, ◌++◌, eqb}
use Rattle.std.proofs.Common.{ap, append_assoc, append-nil, arith, eq-eqb, ne_eqb}
use Rattle.std.proofs.Math.Bool.{or-true}
use Rattle.std.proofs.Math.Decide.{dec_lt}
use Rattle.language.specs.Tree.{Tree, leaf, catenation, union, star}
use Rattle.tree.specs.Cut.{Cut, one, cuts, pieces}
use Rattle.tree.specs.Firsts.{member, firsts, upwards}
use Rattle.tree.specs.Numbering.{child_piece, NodeNumbers, alone, above_one, above_two, in_walk, numbered}

-- in a list every number is one of the k from low on, or the next one, and then k grows by 1; at the end it is n
data Climbing (low : ℕ) : ℕ → List ℕ → ℕ → Type 0 where
  done : {k : ℕ} → Climbing low k [] k
  again : {k a n : ℕ} {rest : List ℕ} → low ≤ a → a < low + k → Climbing low k rest n → Climbing low k (a ∷ rest) n
  next : {k a n : ℕ} {rest : List ℕ} → a ≡ low + k → Climbing low (k + 1) rest n → Climbing low k (a ∷ rest) n

-- of the numbers from low on, just k were met
record Met (met : List ℕ) (low k : ℕ) : Type 0 where
  known : (a : ℕ) → low ≤ a → a < low + k → member a met ≡ true
  unknown : (a : ℕ) → low + k ≤ a → member a met ≡ false

-- none was met yet
none_met : (low : ℕ) → Met [] low 0
none_met low = record { known = λ a l h. absurd (omega arith); unknown = λ a h. refl }

-- one more is met
one_met : (met : List ℕ) (low k : ℕ) → Met met low k → Met ((low + k) ∷ met) low (k + 1)
one_met met low k m =
    record {
      known = λ a l h. by_last a l h (dec_lt a (low + k));
      unknown =
          λ a h. rw (ne_eqb a (low + k) (λ e. omega arith), m.unknown a (omega arith));
    }
  where
    by_last : (a : ℕ) → low ≤ a → a < low + (k + 1) → Dec (a < low + k) → member a ((low + k) ∷ met) ≡ true
    by_last a l h (yes before) = rw (m.known a l before) (or-true (eqb a (low + k)))
    by_last a l h (no now) = rw (eq-eqb a (low + k) (omega arith))

-- a climbing list climbs at least to where it began
climbing_grows : {low k n : ℕ} {l : List ℕ} → Climbing low k l n → k ≤ n
climbing_grows done = omega arith
climbing_grows (again l h climbing) = climbing_grows climbing
climbing_grows (next e climbing) = omega (arith, climbing_grows climbing)

-- in a climbing list the numbers that stand first are the next ones, upwards
firsts_climbing : {low k n : ℕ} {l : List ℕ} (met : List ℕ) → Met met low k → Climbing low k l n
    → firsts met l ≡ upwards (low + k) (n - k)
firsts_climbing {k = k} met m done = let nothing_left : k - k ≡ 0 = omega arith in rw nothing_left
firsts_climbing met m (again {a = a} l h climbing) = rw (m.known a l h) (firsts_climbing met m climbing)
firsts_climbing {low = low} {k = k} {n = n} met m (next {rest = rest} e climbing) =
    let one_left : n - k ≡ suc (n - (k + 1)) = omega (arith, climbing_grows climbing) in
    let further : low + k + 1 ≡ low + (k + 1) = omega arith in
    rw (e, m.unknown (low + k) (omega arith), one_left, further)
    (ap (λ (more : List ℕ). (low + k) ∷ more) (firsts_climbing ((low + k) ∷ met) (one_met met low k m) climbing))

-- the root of a subtree is met when k numbers from low on were: its piece was met before, or is the next one. Then
-- `after` were met, and `new` comes next
data RootMet (low k piece new after : ℕ) : Type 0 where
  before : low ≤ piece → piece < low + k → new ≡ low + k → after ≡ k → RootMet low k piece new after
  now : piece ≡ low + k → new ≡ low + after → after ≡ k + 1 → RootMet low k piece new after

-- what holds once the root is met
record Goes_on (low k piece new : ℕ) : Type 0 where
  from_low : low ≤ piece
  is_met : piece < new
  comes_next : new ≡ low + k

-- the root is met
goes_on : {low k piece new after : ℕ} → RootMet low k piece new after → Goes_on low after piece new
goes_on (before l h e f) = record { from_low = l; is_met = omega arith; comes_next = omega arith }
goes_on (now h e f) = record { from_low = omega arith; is_met = omega arith; comes_next = e }

-- a child's root is in its parent's piece, or in the next one
child_met : (b : Bool) (low k piece new : ℕ) → Goes_on low k piece new
    → RootMet low k (child_piece b piece new) (one b + new) (one b + k)
child_met true low k piece new g = now g.comes_next (omega arith) (omega arith)
child_met false low k piece new g = before g.from_low (omega arith) (omega arith) (omega arith)

-- then the rest of the list climbs on
root_climbing : {low k piece new after n : ℕ} {l : List ℕ} → RootMet low k piece new after → Climbing low after l n
    → Climbing low k (piece ∷ l) n
root_climbing (before from h e f) rest = again from h (rw f at rest)
root_climbing (now h e f) rest = next h (rw f at rest)

-- with cut more pieces below its root, a subtree numbered as x says climbs in its walk, and so is the list behind
-- it from there on
abbrev ClimbsBehind : (ℕ → ℕ → NodeNumbers) → ℕ → Type 0
ClimbsBehind x cut =
    (low k piece new after last : ℕ) (rest : List ℕ) (n : ℕ) → RootMet low k piece new after → last ≡ after + cut
    → Climbing low last rest n
    → Climbing low k (in_walk (x piece new) ++ rest) n

-- a leaf: its root alone
counts_alone : ClimbsBehind (λ piece new. alone piece) 0
counts_alone low k piece new after last rest n root e later = let none_below : last ≡ after =
    omega arith in root_climbing root (rw none_below at later)

-- a star: its root, then its operand
counts_one : (b : Bool) (x : ℕ → ℕ → NodeNumbers) (i : ℕ) → ClimbsBehind x i
    → ClimbsBehind (λ piece new. above_one piece (x (child_piece b piece new) (one b + new))) (one b + i)
counts_one b x i only low k piece new after last rest n root e later =
    root_climbing root (only low after _ _ (one b + after) last rest n (child_met b low after piece new (goes_on root))
    (omega arith) later)

-- a node with two children: its root, then the left one, then the right one
counts_two : (b c : Bool) (x y : ℕ → ℕ → NodeNumbers) (i j : ℕ) → ClimbsBehind x i → ClimbsBehind y j
    → ClimbsBehind (λ piece new. above_two piece (x (child_piece b piece new) (one b + new))
    (y (child_piece c piece (one b + i + new)) (one c + (one b + i + new)))) (one b + i + (one c + j))
counts_two b c x y i j left right low k piece new after last rest n root e later =
    let g = goes_on root in
    let further : Goes_on low (one b + i + after) piece (one b + i + new) =
    record { from_low = g.from_low; is_met = omega arith; comes_next = omega arith } in
    root_climbing root
    (rw append_assoc (left low after _ _ (one b + after) (one b + i + after) _ n (child_met b low after piece new g)
    (omega arith)
    (right low (one b + i + after) _ _ (one c + (one b + i + after)) last rest n
    (child_met c low (one b + i + after) piece (one b + i + new) further) (omega arith) later)))

-- every subtree climbs in its walk
climbing : {A : Type 0} (t : Tree A) (c : Cut t) → ClimbsBehind (numbered t c) (cuts t c)
climbing (leaf a) c = counts_alone
climbing (catenation s t) c = counts_two c.0 c.2 (numbered s c.1) (numbered t c.3) _ _ (climbing s c.1)
    (climbing t c.3)
climbing (union s t) c = counts_two c.0 c.2 (numbered s c.1) (numbered t c.3) _ _ (climbing s c.1)
    (climbing t c.3)
climbing (star s) c = counts_one c.0 (numbered s c.1) _ (climbing s c.1)

-- a walk first meets the pieces in the order of their numbers. Where a subtree's root is in the piece `first` and the
-- edge above it is cut, the walk through it meets the numbers first, first + 1, .. of its pieces in this order, with no
-- gap; for the whole tree `first` is 0
pub walk_meets_in_order : {A : Type 0} (t : Tree A) (c : Cut t) (first : ℕ)
    → firsts [] (in_walk (numbered t c first (1 + first))) ≡ upwards first (pieces t c)
walk_meets_in_order t c first =
    let all : Climbing first 0 (in_walk (numbered t c first (1 + first)) ++ []) (pieces t c) =
    climbing t c first 0 first (1 + first) 1 (pieces t c) [] (pieces t c)
    (now (omega arith) (omega arith) (omega arith)) refl done in
    let from_first : first + 0 ≡ first = omega arith in
    let all_of_them : pieces t c - 0 ≡ pieces t c = omega arith in
    rw (from_first, all_of_them) at (firsts_climbing [] (none_met first) (rw append-nil at all))
