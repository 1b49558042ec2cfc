-- What an object schema says of a value that it admits, keyword by keyword.
use Rattle.std.proofs.Common.{◌≡◌, ℕ, List, Bool, true, ◌&&◌}
use Rattle.json_value.specs.Value.{Value, same}
use Rattle.schema_defs.specs.Texts.{Relations}
use Rattle.schema_defs.specs.Schema.{Plain, object, Same, Lists, Named}
use Rattle.schema_defs.specs.Layer.{Parts, judge, judge_same, if_given, types_agree, is_listed, of_kind_agrees, parts_agree}
use Rattle.enum_defs.proofs.Tests.{and_left, and_right}

module _ (r : Relations) (v : Value) (ps : Parts) (fol : List ℕ → Bool) (p : Plain) (ss : Same) (ls : Lists) (ns : Named) where
  pub record Says : Type 0 where
    pub types : if_given (types_agree v) p.types ≡ true
    pub listed : if_given (is_listed v) p.enum_values ≡ true
    pub constant : if_given (same v) p.const_value ≡ true
    pub kind : of_kind_agrees r p v ≡ true
    pub reference : if_given fol p.reference ≡ true
    pub parts : parts_agree r v ps ls ns ≡ true
    pub subschemas : judge_same r v ps fol ss ≡ true

  pub says : judge r v ps fol (object p ss ls ns) ≡ true → Says
  says h =
      let six = and_left _ (judge_same r v ps fol ss) h in
      let five = and_left _ (parts_agree r v ps ls ns) six in
      let four = and_left _ (if_given fol p.reference) five in
      let three = and_left _ (of_kind_agrees r p v) four in
      let two = and_left _ (if_given (same v) p.const_value) three in
      record {
        types = and_left _ (if_given (is_listed v) p.enum_values) two;
        listed = and_right (if_given (types_agree v) p.types) _ two;
        constant = and_right (if_given (types_agree v) p.types && if_given (is_listed v) p.enum_values) _ three;
        kind = and_right (if_given (types_agree v) p.types && if_given (is_listed v) p.enum_values && if_given (same v) p.const_value) _ four;
        reference = and_right (if_given (types_agree v) p.types && if_given (is_listed v) p.enum_values && if_given (same v) p.const_value && of_kind_agrees r p v) _ five;
        parts = and_right (if_given (types_agree v) p.types && if_given (is_listed v) p.enum_values && if_given (same v) p.const_value && of_kind_agrees r p v && if_given fol p.reference) _ six;
        subschemas = and_right (if_given (types_agree v) p.types && if_given (is_listed v) p.enum_values && if_given (same v) p.const_value && of_kind_agrees r p v && if_given fol p.reference && parts_agree r v ps ls ns) _ h;
      }

  pub said : Says → judge r v ps fol (object p ss ls ns) ≡ true
  said h = λ i. h.types i && h.listed i && h.constant i && h.kind i && h.reference i && h.parts i && h.subschemas i
