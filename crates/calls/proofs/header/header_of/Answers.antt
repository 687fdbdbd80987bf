use Rattle.std.proofs.Common.{arith}
use Rattle.calls.proofs.Headers.{only_header}
use Rattle.calls.proofs.header.header_of.Goals as goal

pub returns-in_default : goal.returns-in_default
returns-in_default c h form = let only = only_header _ _ _ _ _ c.in_ok-held.ensures c.in_ok-take_number.ensures h form in omega arith

pub returns-in_default-2 : goal.returns-in_default-2
returns-in_default-2 c h form = let only = only_header _ _ _ _ _ c.in_ok-held.ensures c.in_ok-take_number.ensures h form in omega arith

pub returns-in_default-3 : goal.returns-in_default-3
returns-in_default-3 c h form = let only = only_header _ _ _ _ _ c.in_ok-held.ensures c.in_ok-take_number.ensures h form in omega arith
