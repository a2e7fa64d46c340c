-- Laws of running: state 0 is never left, and a run goes on byte by byte.
use Rattle.std.specs.Prelude.{ℕ, zero, suc, ◌+◌, ◌≤◌, ◌<◌, ◌≡◌, refl, Bool, false, cond, List, [], ◌∷◌, length, get_or, take, drop, eqb}
use Rattle.std.proofs.Common.{add-one, arith, sym, ap, ◌∙◌, length-drop, drop-cons, take_all, get_or-drop, lt-ltb, le-ltb}
use Rattle.std.proofs.Math.Seq.{drop-length}
use Rattle.std.proofs.Math.Dec.{eqb-suc-zero}
use Rattle.tree.specs.RefusalNumbers.{table_too_short}
use Rattle.running.specs.Answer.{shortest_table, refusing_table, answering_table, table_answered}
use Rattle.running.specs.Runs.{entry, accepting_column, leads, led, accepts, runs}

-- from state 0 every text leads to state 0
pub led_nowhere : (table text : List ℕ) → led table text 0 ≡ 0
led_nowhere table [] = refl
led_nowhere table (b ∷ text) = led_nowhere table text

-- so from state 0 no text is accepted
pub nothing_accepted : (table text : List ℕ) → accepts table (led table text 0) ≡ false
nothing_accepted table text = ap (accepts table) (led_nowhere table text)

-- from any other state a byte leads where its entry says
pub leads_on : (table : List ℕ) (s b : ℕ) → 1 ≤ s → leads table s b ≡ entry table b s
leads_on table zero b some = absurd (omega arith)
leads_on table (suc s) b some = ap (λ (over : Bool). cond over 0 (entry table b (suc s))) (eqb-suc-zero s)

-- and its entry says whether it accepts
pub accepts_by : (table : List ℕ) (s : ℕ) → 1 ≤ s → accepts table s ≡ eqb (entry table accepting_column s) 1
accepts_by table zero some = absurd (omega arith)
accepts_by table (suc s) some =
    ap (λ (over : Bool). cond over false (eqb (entry table accepting_column (suc s)) 1)) (eqb-suc-zero s)

-- the rest of a text leads on from where its first byte led
pub led_on : (table text : List ℕ) (i s : ℕ) → i < length text → 1 ≤ s
    → led table (drop i text) s ≡ led table (drop (i + 1) text) (entry table (get_or text i 0) s)
led_on table text i s more some =
    ap (λ (rest : List ℕ). led table rest s)
    (drop-cons text i 0 more ∙ ap (λ (n : ℕ). get_or text i 0 ∷ drop n text) (sym (add-one i)))
    ∙ ap (λ (next : ℕ). led table (drop (i + 1) text) next) (leads_on table s (get_or text i 0) some)

-- an entry of the part of a table from some entry on
pub entry_of_part : (table : List ℕ) (begin n s : ℕ) → length table ≤ begin + n
    → get_or (take n (drop begin table)) s 0 ≡ get_or table (begin + s) 0
entry_of_part table begin n s whole =
    ap (λ (part : List ℕ). get_or part s 0) (take_all n (drop begin table) (rw (length-drop begin table) (omega arith)))
    ∙ get_or-drop begin table s 0

-- a text of which some part has led to state 0 is not accepted
pub not_accepted : (table text : List ℕ) (i s : ℕ) → s ≡ 0 → led table (drop i text) s ≡ led table text 1
    → false ≡ runs table text
not_accepted table text i s none same =
    sym (ap (accepts table) (sym same ∙ ap (led table (drop i text)) none ∙ led_nowhere table (drop i text)))

-- where all of the text was taken, the state that it led to decides
pub decided : (table text : List ℕ) (i s : ℕ) → length text ≡ i → 1 ≤ s → led table (drop i text) s ≡ led table text 1
    → eqb (entry table accepting_column s) 1 ≡ runs table text
decided table text i s over some same =
    sym (accepts_by table s some) ∙ ap (accepts table)
    (ap (λ (rest : List ℕ). led table rest s) (sym (drop-length text) ∙ ap (λ (k : ℕ). drop k text) over) ∙ same)

-- a table that is too short is refused
pub answered_short : (table text : List ℕ) → length table < shortest_table
    → refusing_table table_too_short ≡ table_answered table text
answered_short table text short =
    ap (λ (b : Bool). cond b (refusing_table table_too_short) (answering_table (runs table text)))
    (sym (lt-ltb (length table) shortest_table short))

-- any other runs
pub answered_long : (table text : List ℕ) (r : Bool) → shortest_table ≤ length table → r ≡ runs table text
    → answering_table r ≡ table_answered table text
answered_long table text r long ran =
    ap answering_table ran ∙ ap (λ (b : Bool). cond b (refusing_table table_too_short)
    (answering_table (runs table text)))
    (sym (le-ltb (length table) shortest_table long))
