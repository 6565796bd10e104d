pub mod ExpressionFaults
pub mod CauseStatement
