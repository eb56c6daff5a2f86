-- What a frame means: what of it counts.
use Rattle.std.specs.Prelude.{ℕ, Option}
use Rattle.gj_json.specs.declared.names.Known.{Known}
use Rattle.gj_coords.specs.declared.fault.Fault.{Fault}
use Rattle.gj_coords.specs.declared.warnings.Warnings.{Warnings}
use Rattle.gj_rules.specs.declared.role.Role.{Role}
use Rattle.gj_rules.specs.declared.member_slots.Slot.{Slot}
use Rattle.gj_rules.specs.declared.member_slots.TypeValue.{TypeValue}

pub record Findings : Type 0 where
  pub fault : Option Fault
  pub warned : Warnings

pub record Shapes : Type 0 where
  pub point : Findings
  pub multi_point : Findings
  pub line_string : Option Fault
  pub multi_line_string : Findings
  pub polygon : Findings
  pub multi_polygon : Findings

pub record MemberSlots : Type 0 where
  pub place : ℕ
  pub role : Role
  pub repeated : Option Fault
  pub type_value : Option TypeValue
  pub shapes : Shapes
  -- the first member of each name
  pub slots : Known → Option Slot

pub record MemberWarnings : Type 0 where
  pub own : Warnings
  pub geometries : Warnings
  pub geometry : Warnings
  pub features : Warnings

pub record Frame : Type 0 where
  pub slots : MemberSlots
  pub gathered : MemberWarnings
