use Rattle.std.proofs.Common.{rules}
use Rattle.std.proofs.lemmas.List.{get_or-map, get_or_past, length-map}
use Rattle.stores.proofs.Chains.{record_value_at}
use Rattle.stores.proofs.chain.value_of.Goals as goal

pub returns-in_default : goal.returns-in_default
returns-in_default g c = search (rules, record_value_at, get_or-map, get_or_past, length-map)
