use Rattle.std.proofs.Common.{◌≡◌, ◌++◌, map, string_bytes}
use Rattle.asks.specs.Lines.{parsed}
use Rattle.asks.specs.LinesLeft.{lines_left}
use Rattle.vault.specs.Meaning.{policy, state}
use Rattle.dayrun.specs.Days.{asks_text, printed}
use Rattle.dayrun.proofs.day.answer_all.Given as goal

-- the policy stays, and the text so far with what is left to print is the whole text
abbrev pub invariant-loop-line : goal.invariant-loop-line
invariant-loop-line g l = let p = policy g.M.Order g.G.Order l.initial.vault in record {
  policy_stays : policy g.M.Order g.G.Order l.vault ≡ p;
  text : string_bytes l.out ++ asks_text p (state g.S.Store l.vault) (map parsed (lines_left l.line-iterator))
      ≡ string_bytes l.initial.out ++ printed p (state g.S.Store l.initial.vault) l.input;
}
