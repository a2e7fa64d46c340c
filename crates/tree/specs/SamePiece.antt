-- Two nodes have the same piece number exactly when no cut edge lies between them.
use Rattle.std.specs.Prelude.{ℕ, ◌+◌, ◌≤◌, ◌<◌, ◌≡◌, refl, ◌↔◌, Bool, true, false}
use Rattle.std.proofs.Common.{sym, ◌∙◌, arith}
use Rattle.language.specs.Tree.{Tree, leaf, catenation, union, star}
use Rattle.tree.specs.Cut.{Cut, one, cuts}
use Rattle.tree.specs.Numbering.{child_piece, numbered}
use Rattle.tree.specs.Saying.{true_false}
use Rattle.tree.specs.Ways.{Way, here, left, right, Node, number_of, Uncut, UncutBetween}

-- a node's number: the root's where no edge on the way is cut, else one of the k from `new` on
data RootOrLater (uncut : Type 0) (a piece new k : ℕ) : Type 0 where
  root's : uncut → a ≡ piece → RootOrLater uncut a piece new k
  later : (uncut → ⊥) → new ≤ a → a < new + k → RootOrLater uncut a piece new k

-- a child's nodes, seen from its parent
of_child : (b : Bool) {uncut : Type 0} {a k : ℕ} (piece new : ℕ)
    → RootOrLater uncut a (child_piece b piece new) (one b + new) k
    → RootOrLater ((b ≡ false) × uncut) a piece new (one b + k)
of_child true piece new (root's o e) = later (λ h. true_false h.0) (omega arith) (omega arith)
of_child true piece new (later n low high) = later (λ h. true_false h.0) (omega arith) (omega arith)
of_child false piece new (root's o e) = root's (refl, o) e
of_child false piece new (later n low high) = later (λ h. n h.1) (omega arith) (omega arith)

-- numbers of a longer run, and of one that begins earlier
wider : {uncut : Type 0} {a piece new k : ℕ} (new' k' : ℕ) → new' ≤ new → new + k ≤ new' + k'
    → RootOrLater uncut a piece new k → RootOrLater uncut a piece new' k'
wider new' k' low high (root's o e) = root's o e
wider new' k' low high (later n l h) = later n (omega arith) (omega arith)

-- every node's number is so
among : {A : Type 0} (t : Tree A) (c : Cut t) (piece new : ℕ) (w : Way) → Node t w
    → RootOrLater (Uncut t c w) (number_of (numbered t c piece new) w) piece new (cuts t c)
among (leaf a) c piece new here n = root's tt refl
among (leaf a) c piece new (left w) n = absurd n
among (leaf a) c piece new (right w) n = absurd n
among (catenation s t) c piece new here n = root's tt refl
among (catenation s t) c piece new (left w) n =
    wider new _ (omega arith) (omega arith) (of_child c.0 piece new (among s c.1 _ _ w n))
among (catenation s t) c piece new (right w) n =
    wider new _ (omega arith) (omega arith)
    (of_child c.2 piece (one c.0 + cuts s c.1 + new) (among t c.3 _ _ w n))
among (union s t) c piece new here n = root's tt refl
among (union s t) c piece new (left w) n =
    wider new _ (omega arith) (omega arith) (of_child c.0 piece new (among s c.1 _ _ w n))
among (union s t) c piece new (right w) n =
    wider new _ (omega arith) (omega arith)
    (of_child c.2 piece (one c.0 + cuts s c.1 + new) (among t c.3 _ _ w n))
among (star s) c piece new here n = root's tt refl
among (star s) c piece new (left w) n = of_child c.0 piece new (among s c.1 _ _ w n)
among (star s) c piece new (right w) n = absurd n

-- a node has the root's number exactly when no edge on the way is cut
root_or_not : {uncut : Type 0} {a piece new k : ℕ} → piece < new → RootOrLater uncut a piece new k → (piece ≡ a)
    ↔ uncut
root_or_not h (root's o e) = (λ same. o, λ p. sym e)
root_or_not h (later n low high) = (λ same. absurd (omega arith), λ p. absurd (n p))

-- nodes below two children have the same number exactly when it is the root's
apart : {X Y : Type 0} {a b piece new k m : ℕ} → piece < new → RootOrLater X a piece new k
    → RootOrLater Y b piece (k + new) m
    → (a ≡ b) ↔ (X × Y)
apart h (root's o e) (root's p f) = (λ same. (o, p), λ both. e ∙ sym f)
apart h (root's o e) (later n low high) = (λ same. absurd (omega arith), λ both. absurd (n both.1))
apart h (later n low high) (root's p f) = (λ same. absurd (omega arith), λ both. absurd (n both.0))
apart h (later n low high) (later n' low' high') = (λ same. absurd (omega arith), λ both. absurd (n both.0))

-- the other way round
swapped : {X Y : Type 0} {a b : ℕ} → (a ≡ b) ↔ (X × Y) → (b ≡ a) ↔ (Y × X)
swapped h = (λ e. ((h.0 (sym e)).1, (h.0 (sym e)).0), λ both. sym (h.1 (both.1, both.0)))

-- and with the root last
turned : {X : Type 0} {a b : ℕ} → (a ≡ b) ↔ X → (b ≡ a) ↔ X
turned h = (λ e. h.0 (sym e), λ x. sym (h.1 x))

-- a child's own piece is older than those below it
child_older : (b : Bool) (piece new : ℕ) → piece < new → child_piece b piece new < one b + new
child_older true piece new h = omega arith
child_older false piece new h = omega arith

-- the theorem, for nodes below a node with two children
module _ {A : Type 0} (s t : Tree A) (b c : Bool) (d : Cut s) (e : Cut t) (piece new : ℕ) (older : piece < new) where
  -- one node below each
  pub below_both : (v w : Way) → Node s v → Node t w
      → (number_of (numbered s d (child_piece b piece new) (one b + new)) v
      ≡ number_of (numbered t e (child_piece c piece (one b + cuts s d + new)) (one c + (one b + cuts s d + new))) w)
      ↔ (((b ≡ false) × Uncut s d v) × ((c ≡ false) × Uncut t e w))
  below_both v w m n =
      apart older (of_child b piece new (among s d _ _ v m))
      (of_child c piece (one b + cuts s d + new) (among t e _ _ w n))

-- two nodes have the same number exactly when no cut edge lies between them
pub same_piece_exactly : {A : Type 0} (t : Tree A) (c : Cut t) (piece new : ℕ) → piece < new → (v w : Way) → Node t v
    → Node t w → (number_of (numbered t c piece new) v ≡ number_of (numbered t c piece new) w) ↔ UncutBetween t c v w
same_piece_exactly (leaf a) c piece new h here w m n = root_or_not h (among (leaf a) c piece new w n)
same_piece_exactly (leaf a) c piece new h (left v) w m n = absurd m
same_piece_exactly (leaf a) c piece new h (right v) w m n = absurd m
same_piece_exactly (catenation s t) c piece new h here w m n = root_or_not h (among (catenation s t) c piece new w n)
same_piece_exactly (catenation s t) c piece new h (left v) here m n =
    turned (root_or_not h (among (catenation s t) c piece new (left v) m))
same_piece_exactly (catenation s t) c piece new h (right v) here m n =
    turned (root_or_not h (among (catenation s t) c piece new (right v) m))
same_piece_exactly (catenation s t) c piece new h (left v) (left w) m n =
    same_piece_exactly s c.1 _ _ (child_older c.0 piece new h) v w m n
same_piece_exactly (catenation s t) c piece new h (right v) (right w) m n =
    same_piece_exactly t c.3 _ _ (child_older c.2 piece (one c.0 + cuts s c.1 + new) (omega arith)) v w m n
same_piece_exactly (catenation s t) c piece new h (left v) (right w) m n =
    below_both s t c.0 c.2 c.1 c.3 piece new h v w m n
same_piece_exactly (catenation s t) c piece new h (right v) (left w) m n =
    swapped (below_both s t c.0 c.2 c.1 c.3 piece new h w v n m)
same_piece_exactly (union s t) c piece new h here w m n = root_or_not h (among (union s t) c piece new w n)
same_piece_exactly (union s t) c piece new h (left v) here m n =
    turned (root_or_not h (among (union s t) c piece new (left v) m))
same_piece_exactly (union s t) c piece new h (right v) here m n =
    turned (root_or_not h (among (union s t) c piece new (right v) m))
same_piece_exactly (union s t) c piece new h (left v) (left w) m n =
    same_piece_exactly s c.1 _ _ (child_older c.0 piece new h) v w m n
same_piece_exactly (union s t) c piece new h (right v) (right w) m n =
    same_piece_exactly t c.3 _ _ (child_older c.2 piece (one c.0 + cuts s c.1 + new) (omega arith)) v w m n
same_piece_exactly (union s t) c piece new h (left v) (right w) m n =
    below_both s t c.0 c.2 c.1 c.3 piece new h v w m n
same_piece_exactly (union s t) c piece new h (right v) (left w) m n =
    swapped (below_both s t c.0 c.2 c.1 c.3 piece new h w v n m)
same_piece_exactly (star s) c piece new h here w m n = root_or_not h (among (star s) c piece new w n)
same_piece_exactly (star s) c piece new h (left v) here m n =
    turned (root_or_not h (among (star s) c piece new (left v) m))
same_piece_exactly (star s) c piece new h (left v) (left w) m n =
    same_piece_exactly s c.1 _ _ (child_older c.0 piece new h) v w m n
same_piece_exactly (star s) c piece new h (left v) (right w) m n = absurd n
same_piece_exactly (star s) c piece new h (right v) w m n = absurd m
