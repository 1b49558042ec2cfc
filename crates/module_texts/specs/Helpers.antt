-- The module `typify_present`: what attributes name, and what conversions ask, where there are rules, and patterns in them.
use Rattle.std.specs.Prelude.{ℕ, List, [], ◌++◌, length, Bool, false, not, ◌&&◌, nat_eq, codes, if◌then◌else◌}
use Rattle.std.specs.List.{list_any}
use Rattle.conversion_table.specs.declared.conversions.Rule.{Rule}
use Rattle.conversion_table.specs.declared.conversions.Rule.TheVariants.{Text, Allow, Deny}
use Rattle.conversion_table.specs.declared.conversions.Constraint.{Constraint}

abbrev pub present_text : List ℕ
present_text = codes "\n#![allow(dead_code, non_camel_case_types, non_snake_case)]\n\nmod typify_present {\n    use serde::{Deserialize, Deserializer};\n\n    // A member that is there is read as the type, so that null is refused where the type refuses it.\n    pub fn some<'de, D, T>(from: D) -> Result<Option<T>, D::Error>\n    where\n        D: Deserializer<'de>,\n        T: Deserialize<'de>,\n    {\n        T::deserialize(from).map(Some)\n    }\n\n    // The member has to be there, and null is none.\n    pub fn whole<'de, D, T>(from: D) -> Result<T, D::Error>\n    where\n        D: Deserializer<'de>,\n        T: Deserialize<'de>,\n    {\n        T::deserialize(from)\n    }\n"

abbrev pub rules_text : List ℕ
rules_text = codes "\n    pub fn at_least(text: &str, least: usize) -> Result<(), String> {\n        if text.chars().count() < least {\n            return Err(format!(\"shorter than {least} characters\"));\n        }\n        Ok(())\n    }\n\n    pub fn at_most(text: &str, most: usize) -> Result<(), String> {\n        if text.chars().count() > most {\n            return Err(format!(\"longer than {most} characters\"));\n        }\n        Ok(())\n    }\n\n    pub fn listed<T: serde::Serialize>(value: &T, values: &str) -> Result<(), String> {\n        if is_in(value, values)? {\n            return Ok(());\n        }\n        Err(format!(\"not one of {values}\"))\n    }\n\n    pub fn not_listed<T: serde::Serialize>(value: &T, values: &str) -> Result<(), String> {\n        if is_in(value, values)? {\n            return Err(format!(\"one of {values}\"));\n        }\n        Ok(())\n    }\n\n    fn is_in<T: serde::Serialize>(value: &T, values: &str) -> Result<bool, String> {\n        let value = serde_json::to_value(value).map_err(|error| error.to_string())?;\n        let values: Vec<serde_json::Value> =\n            serde_json::from_str(values).map_err(|error| error.to_string())?;\n        Ok(values.contains(&value))\n    }\n"

abbrev pub patterns_text : List ℕ
patterns_text = codes "\n    pub fn has(text: &str, pattern: &'static str) -> Result<(), String> {\n        if is_found(text, pattern)? {\n            return Ok(());\n        }\n        Err(format!(\"nothing in it is {pattern}\"))\n    }\n\n    pub fn lacks(text: &str, pattern: &'static str) -> Result<(), String> {\n        if is_found(text, pattern)? {\n            return Err(format!(\"something in it is {pattern}\"));\n        }\n        Ok(())\n    }\n\n    pub fn has_one(text: &str, patterns: &[&'static str]) -> Result<(), String> {\n        for pattern in patterns {\n            if is_found(text, pattern)? {\n                return Ok(());\n            }\n        }\n        Err(format!(\"nothing in it is one of {patterns:?}\"))\n    }\n\n    // Of each pattern what is searched for, and whether it is to be found.\n    pub fn has_one_where(text: &str, patterns: &[&[(&'static str, bool)]]) -> Result<(), String> {\n        for pattern in patterns {\n            if are_met(text, pattern)? {\n                return Ok(());\n            }\n        }\n        Err(format!(\"nothing in it is one of {patterns:?}\"))\n    }\n\n    fn are_met(text: &str, searches: &[(&'static str, bool)]) -> Result<bool, String> {\n        for (pattern, wanted) in searches {\n            if is_found(text, pattern)? != *wanted {\n                return Ok(false);\n            }\n        }\n        Ok(true)\n    }\n\n    fn is_found(text: &str, pattern: &'static str) -> Result<bool, String> {\n        use std::cell::RefCell;\n        use std::collections::HashMap;\n\n        thread_local! {\n            static KNOWN: RefCell<HashMap<&'static str, ::regex::Regex>> = RefCell::default();\n        }\n        KNOWN.with_borrow_mut(|known| {\n            if let Some(regex) = known.get(pattern) {\n                return Ok(regex.is_match(text));\n            }\n            let regex = ::regex::Regex::new(pattern).map_err(|error| error.to_string())?;\n            let is_match = regex.is_match(text);\n            known.insert(pattern, regex);\n            Ok(is_match)\n        })\n    }\n"

abbrev pub asks_patterns : Rule → Bool
asks_patterns (Text least most all any) = not (nat_eq (length all.items) 0 && nat_eq (length any.items) 0)
asks_patterns (Allow vs) = false
asks_patterns (Deny vs) = false

abbrev pub any_patterns : List Constraint → Bool
any_patterns cs = list_any (λ c. asks_patterns c.rule) cs

abbrev pub helpers_text : List Constraint → List ℕ
helpers_text cs = present_text ++ ((if not (nat_eq (length cs) 0) then rules_text else []) ++ ((if any_patterns cs then patterns_text else []) ++ codes "}\n"))
