-- Finding the states goes one way only: what was found is told by how many texts were tried.
use Rattle.std.specs.Prelude.{ℕ, zero, suc, ◌+◌, ◌<◌, ◌≡◌, refl, List, [], ◌∷◌, ◌++◌, length, get_or}
use Rattle.std.proofs.Common.{arith, ap, ap₂, sym, ◌∙◌}
use Rattle.language.specs.Tree.{Tree}
use Rattle.tree.specs.Leaf.{Leaf}
use Rattle.machines.specs.Explored.{OneState, tried, Explored, at_start, to_nothing, to_known, to_new}
use Rattle.machines.specs.Leading.{Gives, nothing, known, new, BeforeLast}
use Rattle.machines.specs.OneStateLaws.{one_state_back, one_state_along}
use Rattle.machines.specs.ExploredFacts.{texts_apart, one_more}

module _ (classes : List ℕ) (t : Tree Leaf) where
  -- a text gives one entry only, where no two of the texts lead to one state
  gives_once : {texts : List (List ℕ)} {w : List ℕ} {a b : List (List ℕ)} {m n : ℕ}
      → ((i j : ℕ) → i < length texts → j < length texts → OneState classes t (get_or texts i []) (get_or texts j [])
      → i ≡ j)
      → Gives classes t texts w a m → Gives classes t texts w b n → (a ≡ b) × (m ≡ n)
  gives_once apart (nothing none) (nothing other) = (refl, refl)
  gives_once apart (nothing none) (known left i there one) = absurd (left none)
  gives_once apart (nothing none) (new left apart_from) = absurd (left none)
  gives_once apart (known left i there one) (nothing none) = absurd (left none)
  gives_once {texts} {w} apart (known left i there one) (known other j within same) = (
    refl,
    ap (λ (k : ℕ). 1 + k) (apart i j there within
        (one_state_along classes t (get_or texts i []) w (get_or texts j []) one
        (one_state_back classes t (get_or texts j []) w same))),
  )
  gives_once apart (known left i there one) (new other apart_from) = absurd (apart_from i there one)
  gives_once apart (new left apart_from) (nothing none) = absurd (left none)
  gives_once apart (new left apart_from) (known other i there one) = absurd (apart_from i there one)
  gives_once apart (new left apart_from) (new other from-apart) = (refl, refl)

module _ (classes : List ℕ) (t : Tree Leaf) (firsts : List ℕ) where
  -- where no text was tried, the start was found
  none_tried : {texts : List (List ℕ)} {entries : List ℕ} → Explored classes t firsts texts entries
      → length entries ≡ 0 → (texts ≡ [] ∷ []) × (entries ≡ [])
  none_tried at_start none = (refl, refl)
  none_tried (to_nothing {entries = entries} e some left) none = absurd (omega (arith, one_more entries 0))
  none_tried (to_known {entries = entries} e some left i there one) none =
      absurd (omega (arith, one_more entries (1 + i)))
  none_tried (to_new {texts} {entries} e some left apart) none =
      absurd (omega (arith, one_more entries (1 + length texts)))

  -- where texts were tried, there was a last one
  pub last_tried : {texts : List (List ℕ)} {entries : List ℕ} → Explored classes t firsts texts entries
      → 0 < length entries → BeforeLast classes t firsts texts entries
  last_tried at_start some = absurd (omega arith)
  last_tried (to_nothing {texts} {entries} e more none) some = record {
    earlier = texts;
    front = entries;
    entry = 0;
    explored = e;
    to_try = more;
    gives = nothing none;
    is = refl;
  }
  last_tried (to_known {texts} {entries} e more left i there one) some = record {
    earlier = texts;
    front = entries;
    entry = 1 + i;
    explored = e;
    to_try = more;
    gives = known left i there one;
    is = refl;
  }
  last_tried (to_new {texts} {entries} e more left apart) some = record {
    earlier = texts;
    front = entries;
    entry = 1 + length texts;
    explored = e;
    to_try = more;
    gives = new left apart;
    is = refl;
  }

  -- as many texts as before the last one
  pub front_length : {texts : List (List ℕ)} {entries : List ℕ} (l : BeforeLast classes t firsts texts entries)
      → length entries ≡ 1 + length l.front
  front_length l = ap length l.is ∙ one_more l.front l.entry

  -- what the last text gave, where as much was found before it, is the same
  last_once : {a b : List (List ℕ)} {d e : List ℕ} (l : BeforeLast classes t firsts a d)
      (m : BeforeLast classes t firsts b e) → (l.earlier ≡ m.earlier) × (l.front ≡ m.front)
      → (a ≡ b) × (d ≡ e)
  last_once {a} {b} l m (texts, front) =
      let there : Gives classes t l.earlier (tried classes t firsts l.earlier (length l.front)) b m.entry =
      rw (texts, front) m.gives in
      let (same, entry) = gives_once classes t (texts_apart classes t firsts l.explored) l.gives there in
      (same, l.is ∙ ap₂ (λ (f : List ℕ) (n : ℕ). f ++ (n ∷ [])) front entry ∙ sym m.is)

  -- after n texts, one thing was found
  found_after : (n : ℕ) {a b : List (List ℕ)} {d e : List ℕ} → Explored classes t firsts a d
      → Explored classes t firsts b e → length d ≡ n → length e ≡ n → (a ≡ b) × (d ≡ e)
  found_after zero x y long as_long =
      let (texts, entries) = none_tried x long in
      let (others, other) = none_tried y as_long in
      (texts ∙ sym others, entries ∙ sym other)
  found_after (suc n) x y long as_long =
      let l = last_tried x (omega arith) in
      let m = last_tried y (omega arith) in
      last_once l m (found_after n l.explored m.explored (omega (arith, front_length l))
      (omega (arith, front_length m)))

  -- the result: what was found is told by how many texts were tried
  pub same_found : {a b : List (List ℕ)} {d e : List ℕ} → Explored classes t firsts a d
      → Explored classes t firsts b e → length d ≡ length e → (a ≡ b) × (d ≡ e)
  same_found {e = e} x y long = found_after (length e) x y long refl
