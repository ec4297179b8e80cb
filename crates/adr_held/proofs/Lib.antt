pub mod StampLemmas
pub mod HeldLemmas
pub mod UseLemmas
pub mod ResourceLemmas
pub mod MadeLemmas
pub mod DeliveryLemmas
pub mod RightLemmas
pub mod VenLemmas
