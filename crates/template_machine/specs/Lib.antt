pub mod Environment
pub mod TemplateRef
pub mod Renders
