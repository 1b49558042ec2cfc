-- Small items, and their tokens in a module.
use Rattle.std.specs.Prelude.{◌≡◌, true, false, codes}
use Rattle.token_trees.specs.Text.{text_of}
use Rattle.module_texts.specs.Examples.{person, way, tags}
use Rattle.module_laws.specs.Shown.{shown_item}
use Rattle.module_laws.specs.Laws.{declared_text}

pub record Items : Type 0 where
  pub struct_item : text_of (shown_item true false person)
      ≡ codes "# [ serde ( deny_unknown_fields ) ] pub struct Person { pub name : :: std :: string :: String , # [ serde ( default , rename = \"Age\" ) ] pub age : :: std :: option :: Option < u8 > , }"
  pub enum_item : text_of (shown_item true false way)
      ≡ codes "# [ serde ( tag = \"kind\" ) ] pub enum Way { Off , # [ serde ( rename = \"to\" ) ] To { x : i64 , } , By ( u8 , :: std :: string :: String ) , }"
  pub places : text_of (shown_item true false tags) ≡ codes "pub struct Tags ( pub :: std :: collections :: HashSet < Way > ) ;"
  pub printed : text_of (shown_item false true tags) ≡ codes "struct Tags ( :: std :: collections :: HashSet < Way > , ) ;"
  pub declared : declared_text tags ≡ codes "pub struct Tags(pub ::std::collections::HashSet<Way>);"
