pub mod ConsistencyLemmas
pub mod DroppingLemmas
pub mod FaultLemmas
pub mod SerialLemmas
