-- What the rebuild of one lost disk promises, by our plan and by the balanced one.
pub mod RebuildOneSays
pub mod RebuildBalancedSays
