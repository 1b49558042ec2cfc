-- The text of a module that has the items.
use Rattle.std.specs.Prelude.{ℕ, List, ◌++◌, Bool, map, codes}
use Rattle.serde_json.specs.View.{view}
use Rattle.syntax_trees.specs.Syntax.{TyD}
use Rattle.syntax_trees.specs.Item.{ItemD}
use Rattle.conversion_table.specs.declared.conversions.Conversions.{Conversions}
use Rattle.module_texts.specs.Tokens.{type_text}
use Rattle.module_texts.specs.Asked.{is_hashed}
use Rattle.module_texts.specs.Helpers.{helpers_text}
use Rattle.module_texts.specs.Defaults.{defaults_text}
use Rattle.module_texts.specs.Docs.{Doc}
use Rattle.module_texts.specs.Items.{items_text}

abbrev pub root_line : TyD → List ℕ
root_line t = codes "// root " ++ (type_text t ++ codes "\n")

-- whether items have a hash is known
abbrev pub parts_text : Bool → List ItemD → List Doc → Conversions → TyD → List ℕ
parts_text hashed is ds c root = root_line root ++ (helpers_text c.constraints.items ++ (defaults_text (map view c.defaults.items) ++ items_text hashed is ds c.constraints.items))

-- with what is said of items
abbrev pub module_text : List ItemD → List Doc → Conversions → TyD → List ℕ
module_text is ds c root = parts_text (is_hashed is root) is ds c root
