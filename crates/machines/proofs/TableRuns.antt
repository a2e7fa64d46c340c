-- A table that was made of a tree's columns and states accepts exactly the texts of the tree's language.
use Rattle.std.specs.Prelude.{ℕ, suc, ◌+◌, ◌*◌, ◌/◌, ◌%◌, ◌≤◌, ◌<◌, ◌≡◌, refl, true, false, ◌↔◌, List, [], ◌∷◌, ◌++◌, eqb, length, get_or}
use Rattle.std.proofs.Common.{arith, mul-le-mul_right, mod-eq_of_lt, ap, ap₂, subst, sym, ◌∙◌, inl, inr, append-nil}
use Rattle.std.proofs.Math.Nat.{mul-add-div_right, mul-add-mod_self_right, div-eq_of_lt}
use Rattle.std.proofs.Math.Logic.Iff
use Rattle.std.proofs.Math.Seq.{append_snoc}
use Rattle.language.specs.Tree.{Tree}
use Rattle.language.specs.TakenAsOne.{NotToldApart}
use Rattle.tree.specs.Leaf.{Leaf, meaning, Matches}
use Rattle.running.specs.Runs.{leads, led, accepts, runs}
use Rattle.running.specs.RunLaws.{leads_on, accepts_by}
use Rattle.machines.specs.Columns.{byte_count, Columned}
use Rattle.machines.specs.Explored.{OneState, tried, FoundAllStates}
use Rattle.machines.specs.TableOf.{heading, TableOf}
use Rattle.machines.specs.Leading.{LeadsTo, nowhere, to_state}
use Rattle.machines.specs.OneStateLaws.{
  one_state_same,
  one_state_along,
  one_state_step,
  one_state_matched,
  nothing_step,
  nothing_further,
  nothing_not_matched,
}
use Rattle.machines.specs.ExploredFacts.{first_text, entry_leads}

-- no is not yes
never : {A : Type 0} → false ≡ true → A
never same = absurd (let z : ◌≡◌ {A = ℕ} 0 1 = cc in omega arith)

-- the text that is tried from row i along column c
tried_at : (classes : List ℕ) (t : Tree Leaf) (firsts : List ℕ) (texts : List (List ℕ)) (i c : ℕ) → c < length firsts
    → tried classes t firsts texts (i * length firsts + c) ≡ get_or texts i [] ++ (get_or firsts c 0 ∷ [])
tried_at classes t firsts texts i c there =
    let k = length firsts in
    let row : (i * k + c) / k ≡ i = mul-add-div_right (omega arith) i c ∙ ap (λ (q : ℕ). i + q) (div-eq_of_lt there)
    ∙ omega arith in
    let column : (i * k + c) % k ≡ c = mul-add-mod_self_right i k c ∙ mod-eq_of_lt there in
    ap₂ (λ (q r : ℕ). get_or texts q [] ++ (get_or firsts r 0 ∷ [])) row column

-- it is one of those that were tried
entry_there : (rows k i c : ℕ) → i < rows → c < k → i * k + c < rows * k
entry_there rows k i c row column =
    let up : (i + 1) * k ≤ rows * k = mul-le-mul_right k (omega arith) in
    omega arith

module _ (classes : List ℕ) (t : Tree Leaf) where
  -- where a text leads, another from the same state leads, by a byte that no leaf tells apart
  leads_alike : (texts : List (List ℕ)) (u v : List ℕ) (b c s : ℕ) → OneState classes t u v
      → NotToldApart (meaning classes) t b c → LeadsTo classes t texts (u ++ (b ∷ [])) s
      → LeadsTo classes t texts (v ++ (c ∷ [])) s
  leads_alike texts u v b c s one alike (nowhere is nothing) =
      nowhere is (nothing_step classes t u v b c one alike nothing)
  leads_alike texts u v b c s one alike (to_state i there is same) =
      to_state i there is
      (one_state_along classes t (get_or texts i []) (u ++ (b ∷ [])) (v ++ (c ∷ [])) same
      (one_state_step classes t u v b c one alike))

module _ {classes : List ℕ} {t : Tree Leaf} {firsts columns : List ℕ} {texts : List (List ℕ)}
    {entries before table : List ℕ} (columned : Columned classes t firsts columns)
    (all : FoundAllStates classes t firsts texts entries)
    (made : TableOf classes t firsts columns texts entries before table) where
  -- the entry of state 1 + i for the byte b
  byte_entry : (i b : ℕ) → i < length texts → b < byte_count
      → leads table (1 + i) b ≡ get_or entries (i * length firsts + get_or columns b 0) 0
  byte_entry i b there byte =
      leads_on table (1 + i) b (omega arith)
      ∙ ap (λ (n : ℕ). get_or table (n + (1 + i)) 0) (made.begins b byte)
      ∙ made.leads i (get_or columns b 0) there (columned.within b byte)

  -- one byte further
  leads_further : (v : List ℕ) (b s : ℕ) → b < byte_count → LeadsTo classes t texts v s
      → LeadsTo classes t texts (v ++ (b ∷ [])) (leads table s b)
  leads_further v b s byte (nowhere is nothing) =
      nowhere (ap (λ (n : ℕ). leads table n b) is) (nothing_further classes t v b nothing)
  leads_further v b s byte (to_state i there is one) =
      let c = get_or columns b 0 in
      let n = i * length firsts + c in
      let column : c < length firsts = columned.within b byte in
      let within : n < length entries =
      rw all.over (entry_there (length texts) (length firsts) i c there column) in
      let led_there : LeadsTo classes t texts (get_or texts i [] ++ (get_or firsts c 0 ∷ [])) (get_or entries n 0) =
      subst (λ (w : List ℕ). LeadsTo classes t texts w (get_or entries n 0))
      (tried_at classes t firsts texts i c column) (entry_leads classes t firsts all.explored n within) in
      rw (is, byte_entry i b there byte)
      (leads_alike classes t texts (get_or texts i []) v (get_or firsts c 0) b (get_or entries n 0) one
      (columned.alike b byte) led_there)

  -- a whole text further
  led_further : (w v : List ℕ) (s : ℕ) → ((i : ℕ) → i < length w → get_or w i 0 < byte_count)
      → LeadsTo classes t texts v s → LeadsTo classes t texts (v ++ w) (led table w s)
  led_further [] v s bytes there = rw append-nil there
  led_further (b ∷ w) v s bytes there =
      let first : b < byte_count = bytes 0 (omega arith) in
      rw append_snoc at
      (led_further w (v ++ (b ∷ [])) (leads table s b) (λ i within. bytes (suc i) (omega arith))
      (leads_further v b s first there))

  -- state 1 is where the empty text leads
  start_there : LeadsTo classes t texts [] 1
  start_there =
      let (some, is) = first_text classes t firsts all.explored in
      to_state 0 some refl (rw is (one_state_same classes t []))

  -- the result on states: each text of bytes leads from state 1 to the state that it is one with
  pub text_leads : (w : List ℕ) → ((i : ℕ) → i < length w → get_or w i 0 < byte_count)
      → LeadsTo classes t texts w (led table w 1)
  text_leads w bytes = led_further w [] 1 bytes start_there

  -- the entry of state 1 + i in the column of accepting
  accepting_entry : (i : ℕ) → accepts table (1 + i)
      ≡ eqb (get_or table (heading + length firsts * (1 + length texts) + (1 + i)) 0) 1
  accepting_entry i =
      accepts_by table (1 + i) (omega arith)
      ∙ ap (λ (n : ℕ). eqb (get_or table (n + (1 + i)) 0) 1) made.accepting_begins

  -- state 1 + i accepts where its text is of the language
  state_accepts : (i : ℕ) → i < length texts → (accepts table (1 + i) ≡ true) ↔ Matches classes t (get_or texts i [])
  state_accepts i there = elim (made.accepts i there) [
    | inl (is, matched) ↦ (λ _. matched, λ _. accepting_entry i ∙ ap (λ (n : ℕ). eqb n 1) is)
    | inr (is, not) ↦ (
      λ yes. never (ap (λ (n : ℕ). eqb n 1) (sym is) ∙ sym (accepting_entry i) ∙ yes),
      λ matched. absurd (not matched),
    )
  ]

  -- the state where a text leads accepts where the text is of the language
  led_accepts : (w : List ℕ) (s : ℕ) → LeadsTo classes t texts w s → (accepts table s ≡ true) ↔ Matches classes t w
  led_accepts w s (nowhere is nothing) = (
    λ yes. never (ap (accepts table) (sym is) ∙ yes),
    λ matched. absurd (nothing_not_matched classes t w nothing matched),
  )
  led_accepts w s (to_state i there is one) =
      rw is (Iff.trans (state_accepts i there) (one_state_matched classes t (get_or texts i []) w one))

  -- the result: the table accepts a text of bytes exactly where the text is of the language
  pub table_runs : (w : List ℕ) → ((i : ℕ) → i < length w → get_or w i 0 < byte_count)
      → (runs table w ≡ true) ↔ Matches classes t w
  table_runs w bytes = led_accepts w (led table w 1) (text_leads w bytes)
