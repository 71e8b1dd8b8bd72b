-- `chna_entry::hex` meets its contract: all of the N bytes are digits where they fit a pattern of N digits.
use Rattle.std.proofs.Common.{arith, rules, ◌≡◌, ◌∙◌, ap, ◌+◌, ◌-◌, take, drop}
use Rattle.std.proofs.lemmas.Iterator.{YieldsList-from_slice}
use Rattle.std.proofs.lemmas.Iterator.Search.{all_from_yields_List}
use Rattle.std.specs.List.{list_all}
use borrow.Author.Tests.{tests}
use Rattle.le.specs.Number.{field}
use Rattle.le.proofs.Laws.{field-length}
use Rattle.chna_entry.specs.Ids.{is_hex}
use Rattle.chna_entry.proofs.Patterns.{all-hex}
use Rattle.chna_entry.proofs.hex.Goals as goal

pub returns : goal.returns
unfolding field is_hex
returns g c =
    let a = c.args in
    let k : a.at + g.row.N - a.at ≡ g.row.N = omega arith in
    all_from_yields_List is_hex _ _ _ c.all.ensures.ran (YieldsList-from_slice _ c.iter.ensures.rest) (λ x b q k. search (rules, tests))
    ∙ ap (λ n. list_all is_hex (take n (drop a.at a.s.now))) k
    ∙ all-hex g.row.N (field g.row.N a.at a.s.now) (field-length g.row.N a.at a.s.now c.requires)
