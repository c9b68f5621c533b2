mod ElementRows
mod PairRows
