-- The laws that the judge's proofs plug their places into.
pub mod FormRefusals
pub mod AcceptLaws
pub mod StepRefusals
pub mod JudgingLoop
