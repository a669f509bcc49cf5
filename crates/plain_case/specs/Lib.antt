pub mod OwnOfferWorth
pub mod PlainGap
pub mod PlanWorth
pub mod RootLeast
