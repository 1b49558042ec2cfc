use Rattle.value_writing.proofs.Lists.{empty_list, empty_map}
use Rattle.value_writing.proofs.fields.is_empty.Goals as goal

pub returns-in-List : goal.returns-in-List
returns-in-List c = empty_list _ _ _ c.in-List.is c.is_empty.ensures

pub returns-in-Map : goal.returns-in-Map
returns-in-Map c = empty_map _ _ _ c.in-Map.is c.is_empty-in-Map.ensures
