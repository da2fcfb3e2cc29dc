-- `all_within` meets its contract. Assumes nothing.
use Rattle.std.proofs.Common.{rules, leb, sym, ◌∙◌}
use borrow.Author.Tests.{tests}
use Rattle.std.proofs.lemmas.Iterator.{YieldsList-from_slice}
use Rattle.std.proofs.lemmas.Iterator.Search.{all_from_yields_List}
use Rattle.octets.specs.Words.{most}
use Rattle.sheet.proofs.Refusing.{within_all}
use Rattle.sheet.proofs.all_within.Goals as goal

pub returns : goal.returns
returns c =
    let s = c.args in
    all_from_yields_List (λ w. leb w most) _ _ _ c.all.ensures.ran (YieldsList-from_slice s.words.now cc) (λ x b q k. search (rules, tests))
    ∙ sym (within_all s.words.now)
