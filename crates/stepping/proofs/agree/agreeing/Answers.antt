-- `stepping::agree::agreeing` meets its contract: each child piece was asked, or one of them does not agree.
use Rattle.std.proofs.Common.{ℕ, ◌+◌, ◌-◌, ◌^◌, ◌<◌, ◌≡◌, refl, sym, subst, ◌∙◌, Bool, true, false, length, get_or, rules, arith}
use Rattle.std.specs.Bool.{MatchBool}
use Rattle.std.specs.List.{range_with_len, AllWithin, HoldsAt}
use Rattle.std.proofs.lemmas.List.FromFn.{length-range_with_len, get_or-range_with_len}
use Rattle.std.proofs.lemmas.Iterator.{cases_from_all, YieldsList-from_range}
use Rattle.closing.specs.BitsOfWords.Bits.{Tells}
use Rattle.stepping.specs.SharedStates.WordsChecked.{ChildAgrees, told_all}
use Rattle.stepping.proofs.agree.agreeing.Goals as goal

-- the numbers from 1 below n, asked one by one
told_from_one : {P : ℕ → Type 0} (n : ℕ) (answer : Bool)
    → MatchBool answer (AllWithin P (range_with_len 1 (n - 1)) 0 (length (range_with_len 1 (n - 1))))
    ((k : ℕ) × (k < length (range_with_len 1 (n - 1))) × HoldsAt (λ c. P c → ⊥) (range_with_len 1 (n - 1)) k)
    → Tells ((c : ℕ) → 0 < c → c < n → P c) answer
told_from_one {P} n true all = record {
  holds = λ e c some low.
      let at : get_or (range_with_len 1 (n - 1)) (c - 1) 0 ≡ c = get_or-range_with_len 1 (n - 1) (c - 1) 0 (omega arith) ∙ omega arith in
      subst P at (all (c - 1) 0 (omega arith) (omega (arith, length-range_with_len 1 (n - 1))));
  fails = λ e. cc;
}
told_from_one {P} n false (k, low, not) = record {
  holds = λ e. cc;
  fails = λ e all.
      let inside : k < n - 1 = omega (arith, length-range_with_len 1 (n - 1)) in
      not 0 (subst P (sym (get_or-range_with_len 1 (n - 1) k 0 inside)) (all (1 + k) (omega arith) (omega arith)));
}

pub returns-then-none_past : goal.returns-then-none_past
returns-then-none_past c =
    let words = c.args.words.now in
    let top_small = subst (λ (n : ℕ). get_or words 0 0 < 2 ^ (n + 1)) c.top.ensures (c.none_past.ensures.holds c.if-none_past.true) in
    let told = told_from_one c.args.pieces c.all.result
    (cases_from_all _ _ _ (λ x. ChildAgrees c.args.rows.now words x) (λ x. ChildAgrees c.args.rows.now words x → ⊥)
    c.all.ensures.ran (YieldsList-from_range 1 c.args.pieces (c.args.pieces - 1) refl refl)
    (λ x q k. search rules) (λ x q k. search rules)) in
    told_all record {
      holds = λ e. record { top_small = top_small; children = told.holds e };
      fails = λ e all. told.fails e all.children;
    }
