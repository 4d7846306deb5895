use Rattle.choice.proofs.Overflow.{searched_cases}
use Rattle.std.proofs.Common.{rules}
use Rattle.choice.proofs.Evaluation.searched.Goals as goal

pub returns-then-count-lt8 : goal.returns-then-count-lt8
returns-then-count-lt8 c = search (searched_cases, rules)

pub skip-sixteens-requires : goal.skip-sixteens-requires
skip-sixteens-requires c = (search (searched_cases, rules), search rules, search rules, search rules)
