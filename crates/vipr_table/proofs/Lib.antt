mod RisingLemmas
mod SetLemmas
mod ListsLemmas
mod PagesLemmas
mod BitsLemmas
mod ExpiryLemmas
mod TableLemmas
mod ExpiryOrderLemmas
mod KeepAllLemmas
mod CountLemmas
mod HistoryLemmas
mod UnionsLemmas
mod BelowLemmas
pub mod Laws
