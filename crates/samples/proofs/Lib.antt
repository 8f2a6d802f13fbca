pub mod IgnoredLaws
pub mod RoleLaws
pub mod TemplateLaws
pub mod SignalLaws
pub mod SlotLaws
pub mod RowLaws
pub mod LitLaws
pub mod PointLaws
mod EarlierLaws
