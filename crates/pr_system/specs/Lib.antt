pub mod RunningState
pub mod StepByStep
pub mod InOrder
pub mod Headline
pub mod TrueTrace
pub mod Bounds
pub mod Without
pub mod Laws
